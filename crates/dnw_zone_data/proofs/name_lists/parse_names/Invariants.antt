use Rattle.std.proofs.Common.{◌≡◌, ◌++◌, ℕ, List, length}
use Rattle.std.specs.Prelude.{flat_map}
use Rattle.std.specs.Option.{option_copied}
use Rattle.dnw_base.specs.Names.{wire}
use Rattle.dnw_zone_data.specs.Inside.NameWords.{LeadToNames}
use Rattle.dnw_zone_data.proofs.name_lists.parse_names.Given as goal

-- the names so far, and what is left
abbrev pub invariant-names : goal.invariant-names
invariant-names l =
    (listed : List (List (List ℕ))) × LeadToNames (option_copied l.origin) l.text listed l.left × (l.out.items ≡ l.fn.out.items ++ flat_map wire listed)

abbrev pub decreases-names : goal.decreases-names
decreases-names l = length l.left

use Rattle.std.proofs.Common.{◌≡◌, ◌++◌, ℕ, List, length}
use Rattle.std.specs.Prelude.{string_bytes, flat_map}
use Rattle.std.specs.List.{AllByRecursion}
use Rattle.dnw_base.specs.Names.{AreLabels, wire}
use Rattle.dnw_zone_data.specs.NameLists.{names_text}
use Rattle.dnw_zone_data.proofs.name_lists.push_names.Given as goal

-- the names so far, and what is left
abbrev pub invariant-names : goal.invariant-names
invariant-names l =
    (listed : List (List (List ℕ))) × AllByRecursion AreLabels listed × (l.octets ≡ flat_map wire listed ++ l.left)
    × (string_bytes l.out ≡ string_bytes l.fn.out ++ names_text listed)

abbrev pub decreases-names : goal.decreases-names
decreases-names l = length l.left

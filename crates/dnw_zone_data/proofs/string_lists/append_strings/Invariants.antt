use Rattle.std.proofs.Common.{◌≡◌, ◌≤◌, ◌++◌, ℕ, List, length}
use Rattle.std.specs.Prelude.{flat_map}
use Rattle.dnw_base.specs.Limits.{max_data}
use Rattle.dnw_base.specs.Names.{label_wire}
use Rattle.dnw_zone_data.specs.Inside.StringWords.{LeadTo}
use Rattle.dnw_zone_data.proofs.string_lists.append_strings.Given as goal

-- the strings so far, which are not too many, and what is left
abbrev pub invariant-strings : goal.invariant-strings
invariant-strings l =
    (strings : List (List ℕ)) × LeadTo l.text strings l.left × (l.out.items ≡ l.fn.out.items ++ flat_map label_wire strings)
    × (length (flat_map label_wire strings) ≤ max_data)

abbrev pub decreases-strings : goal.decreases-strings
decreases-strings l = length l.left

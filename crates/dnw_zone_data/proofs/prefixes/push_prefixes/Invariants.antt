use Rattle.std.proofs.Common.{◌≡◌, ◌≤◌, ◌++◌, ℕ, List, length}
use Rattle.std.specs.Prelude.{string_bytes}
use Rattle.dnw_zone_values.specs.Inside.Steps.{IsSpaced}
use Rattle.dnw_zone_data.specs.PrefixLists.{prefixes_within}
use Rattle.dnw_zone_data.proofs.TypeSteps.{after}
use Rattle.dnw_zone_data.proofs.prefixes.push_prefixes.Given as goal

-- what is left, after the texts so far, gives what all gives
abbrev pub invariant-prefixes : goal.invariant-prefixes
invariant-prefixes l =
    (n : ℕ) × (found : List ℕ) × (length l.left ≤ n) × (prefixes_within (length l.octets) l.octets ≡ after found (prefixes_within n l.left)) × IsSpaced found
    × (string_bytes l.out ≡ string_bytes l.fn.out ++ found)

abbrev pub decreases-prefixes : goal.decreases-prefixes
decreases-prefixes l = length l.left

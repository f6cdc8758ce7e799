use Rattle.std.proofs.Common.{◌≡◌, ◌≤◌, ◌++◌, ℕ, List, length}
use Rattle.std.specs.Prelude.{string_bytes}
use Rattle.dnw_zone_data.specs.TypeLists.{codes_within, codes_text}
use Rattle.dnw_zone_data.proofs.TypeSteps.{after}
use Rattle.dnw_zone_data.proofs.types.push_windows.Given as goal

-- what is left, after the codes so far, gives what all gives
abbrev pub invariant-loop-number : goal.invariant-loop-number
invariant-loop-number l =
    (n : ℕ) × (codes : List ℕ) × (length l.left ≤ n) × (codes_within (length l.octets) l.octets ≡ after codes (codes_within n l.left))
    × (string_bytes l.out ≡ string_bytes l.fn.out ++ codes_text codes)

abbrev pub decreases-loop-number : goal.decreases-loop-number
decreases-loop-number l = length l.left

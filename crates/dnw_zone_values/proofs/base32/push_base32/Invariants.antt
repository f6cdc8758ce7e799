use Rattle.std.proofs.Common.{◌≡◌, ◌≤◌, ◌++◌, List, ℕ, length}
use Rattle.dnw_zone_values.specs.Inside.Digits.{digits_octets}
use Rattle.dnw_zone_values.specs.Inside.Takes.{after}
use Rattle.dnw_zone_values.proofs.base32.push_base32.Given as goal

-- what is left, after the octets so far, gives what all gives
abbrev pub invariant-loop-left : goal.invariant-loop-left
invariant-loop-left l =
    (found : List ℕ) × (digits_octets l.text ≡ after found (digits_octets l.left)) × (l.octets.items ≡ l.fn.octets.items ++ found)
    × (length l.left ≤ length l.text)

abbrev pub decreases-loop-left : goal.decreases-loop-left
decreases-loop-left l = length l.left

use Rattle.std.proofs.Common.{◌≡◌, ◌≤◌, ◌++◌, List, ℕ, length}
use Rattle.dnw_zone_values.specs.Pairs.{pairs_octets}
use Rattle.dnw_zone_values.specs.Inside.Takes.{after}
use Rattle.dnw_zone_values.proofs.pairs.push_pairs.Given as goal

-- what is left, after the octets so far, gives what all gives
abbrev pub invariant-loop-left : goal.invariant-loop-left
invariant-loop-left l =
    (found : List ℕ) × (pairs_octets l.text ≡ after found (pairs_octets l.left)) × (l.octets.items ≡ l.fn.octets.items ++ found)
    × (length l.left ≤ length l.text)

abbrev pub decreases-loop-left : goal.decreases-loop-left
decreases-loop-left l = length l.left

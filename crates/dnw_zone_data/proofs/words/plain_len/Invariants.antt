use Rattle.std.proofs.Common.{◌≡◌, ◌≤◌, ◌+◌, ◌-◌, length, false}
use Rattle.dnw_zone_data.specs.Words.{plain_len}
use Rattle.dnw_zone_data.proofs.words.plain_len.Given as goal

abbrev pub invariant-loop-first : goal.invariant-loop-first
invariant-loop-first l =
    (length l.left ≤ length l.text)
    × ((length l.text - length l.left) + plain_len false l.left ≡ plain_len false l.text)

abbrev pub decreases-loop-first : goal.decreases-loop-first
decreases-loop-first l = length l.left

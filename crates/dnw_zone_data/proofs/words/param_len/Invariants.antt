use Rattle.std.proofs.Common.{◌≡◌, ◌≤◌, ◌+◌, ◌-◌, length}
use Rattle.dnw_zone_data.specs.Words.{param_len}
use Rattle.dnw_zone_data.proofs.words.param_len.Given as goal

abbrev pub invariant-loop-first : goal.invariant-loop-first
invariant-loop-first l =
    (length l.left ≤ length l.text)
    × ((length l.text - length l.left) + param_len l.left ≡ param_len l.text)

abbrev pub decreases-loop-first : goal.decreases-loop-first
decreases-loop-first l = length l.left

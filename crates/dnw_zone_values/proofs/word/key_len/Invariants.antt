use Rattle.std.proofs.Common.{◌≡◌, ◌≤◌, ◌+◌, ◌-◌, length}
use Rattle.std.specs.List.{position_or_len}
use Rattle.dnw_zone_values.specs.ParamWords.{is_equals}
use Rattle.dnw_zone_values.proofs.word.key_len.Given as goal

abbrev pub invariant-loop-first : goal.invariant-loop-first
invariant-loop-first l =
    (length l.left ≤ length l.word)
    × ((length l.word - length l.left) + position_or_len is_equals l.left ≡ position_or_len is_equals l.word)

abbrev pub decreases-loop-first : goal.decreases-loop-first
decreases-loop-first l = length l.left

use Rattle.std.proofs.Common.{◌≡◌, length}
use Rattle.dnw_zone_values.specs.Inside.Steps.{ascend}
use Rattle.dnw_zone_values.proofs.param.are_ascending.Given as goal

-- what is left, from here, ascends if all does
abbrev pub invariant-loop-first : goal.invariant-loop-first
invariant-loop-first l = ascend l.least l.left ≡ ascend 0 l.params

abbrev pub decreases-loop-first : goal.decreases-loop-first
decreases-loop-first l = length l.left

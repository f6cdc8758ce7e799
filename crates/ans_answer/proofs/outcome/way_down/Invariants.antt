use Rattle.std.proofs.Common.{◌-◌}
use Rattle.ans_answer.proofs.Down.{IsDown}
use Rattle.ans_answer.proofs.outcome.way_down.Given as goal

abbrev pub invariant-down : goal.invariant-down
invariant-down l = IsDown l.zone l.name.labels l.count

abbrev pub decreases-down : goal.decreases-down
decreases-down l = l.last - l.count

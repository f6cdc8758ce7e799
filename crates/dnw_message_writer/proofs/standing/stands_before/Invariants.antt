use Rattle.std.proofs.Common.{length}
use Rattle.dnw_message_writer.proofs.StandsBefore.{Reaches}
use Rattle.dnw_message_writer.proofs.standing.stands_before.Given as goal

abbrev pub invariant-labels : goal.invariant-labels
invariant-labels l = Reaches l.message l.gap l.start l.fn.labels l.spot l.rest

-- a label is taken
abbrev pub decreases-labels : goal.decreases-labels
decreases-labels l = length l.rest

use Rattle.std.proofs.Common.{length}
use Rattle.dnw_message_writer.proofs.taking.+take.Given as goal

abbrev pub decreases-take : goal.decreases-take
decreases-take l = length l.kinds.now

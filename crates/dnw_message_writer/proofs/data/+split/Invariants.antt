use Rattle.std.proofs.Common.{length}
use Rattle.dnw_message_writer.proofs.data.+split.Given as goal

abbrev pub decreases-split : goal.decreases-split
decreases-split l = length l.kinds.now

use Rattle.std.proofs.Common.{length}
use Rattle.dnw_message_writer.proofs.data.+are_data.Given as goal

abbrev pub decreases-are_data : goal.decreases-are_data
decreases-are_data l = length l.kinds.now

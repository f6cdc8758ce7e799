use Rattle.std.proofs.Common.{length}
use Rattle.dnw_message_writer.proofs.data.+are_to_compress.Given as goal

abbrev pub decreases-are_to_compress : goal.decreases-are_to_compress
decreases-are_to_compress l = length l.kinds.now

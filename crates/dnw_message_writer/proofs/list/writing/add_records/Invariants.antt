use Rattle.std.proofs.Common.{◌-◌, length}
use Rattle.dnw_message_writer.proofs.ListRuns.{Ran}
use Rattle.dnw_message_writer.proofs.list.writing.add_records.Given as goal

abbrev pub invariant-set : goal.invariant-set
invariant-set l = Ran l.octet l.section l.first l.fn.decoder l.fn.writer l.fn.message l.decoder l.writer l.message

abbrev pub decreases-set : goal.decreases-set
decreases-set l = length l.decoder.bytes - l.decoder.index

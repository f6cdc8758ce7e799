use Rattle.std.proofs.Common.{◌-◌, length}
use Rattle.dnw_message_writer.proofs.ListFilling.{Filled}
use Rattle.dnw_message_writer.proofs.list.fill.fill_list.Given as goal

abbrev pub invariant-items : goal.invariant-items
invariant-items l = Filled l.items l.start l.fn.writer l.fn.message l.decoder l.writer l.message

abbrev pub decreases-items : goal.decreases-items
decreases-items l = length l.items - l.decoder.index

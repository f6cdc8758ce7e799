use Rattle.std.proofs.Common.{◌-◌, length}
use Rattle.dnw_message_writer.specs.Lists.{progress}
use Rattle.dnw_message_writer.proofs.ListRuns.{Gone}
use Rattle.dnw_message_writer.proofs.list.writing.write_items.Given as goal

abbrev pub invariant-list : goal.invariant-list
invariant-list l = Gone l.items l.bare l.purpose l.fn.writer l.fn.message (progress l.decoder l.writer l.message l.left)

abbrev pub decreases-list : goal.decreases-list
decreases-list l = length l.items - l.decoder.index

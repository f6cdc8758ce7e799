use Rattle.std.proofs.Common.{◌-◌, length}
use Rattle.dnw_message_writer.proofs.ListItems.{Scanned}
use Rattle.dnw_message_writer.proofs.list.items.scan_list.Given as goal

abbrev pub invariant-list : goal.invariant-list
invariant-list l = Scanned l.items l.flags l.decoder l.last l.ends l.purpose

abbrev pub decreases-list : goal.decreases-list
decreases-list l = length l.items - l.decoder.index

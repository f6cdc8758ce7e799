use Rattle.std.proofs.Common.{length}
use Rattle.dnw_message_writer.proofs.Listing.{Listing}
use Rattle.dnw_message_writer.proofs.state.WriterState.add_listed.Given as goal

abbrev pub invariant-records : goal.invariant-records
invariant-records l = Listing l.section l.owner l.record_type l.class l.ttl l.fn.self l.fn.message l.set l.self l.message l.left

-- data are taken
abbrev pub decreases-records : goal.decreases-records
decreases-records l = length l.left

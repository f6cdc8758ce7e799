use Rattle.std.proofs.Common.{length}
use Rattle.dnw_message_writer.specs.Copying.{sets_of}
use Rattle.dnw_message_writer.proofs.Passing.{InSet}
use Rattle.dnw_message_writer.proofs.state.WriterState.add_set.Given as goal

abbrev pub invariant-set : goal.invariant-set
invariant-set l = InSet l.section l.first (sets_of l.section l.fn.records) l.fn.self l.fn.message (sets_of l.section l.records) l.self l.message

abbrev pub decreases-set : goal.decreases-set
decreases-set l = length l.records

use Rattle.std.proofs.Common.{length}
use Rattle.dnw_message_writer.specs.Copying.{copied_form}
use Rattle.dnw_message_writer.specs.Padded.{signatures_in}
use Rattle.dnw_message_writer.specs.States.{for_last}
use Rattle.dnw_message_writer.specs.declared.section.Section.TheVariants.{Additionals}
use Rattle.dnw_message_writer.proofs.Passing.{Passing}
use Rattle.dnw_message_writer.proofs.state.WriterState.copy_signatures.Given as goal

abbrev pub invariant-records : goal.invariant-records
invariant-records l =
    Passing Additionals copied_form (signatures_in l.source.additionals) (for_last l.fn.self.reserved l.fn.self) l.fn.message (signatures_in l.records) l.self l.message

abbrev pub decreases-records : goal.decreases-records
decreases-records l = length l.records

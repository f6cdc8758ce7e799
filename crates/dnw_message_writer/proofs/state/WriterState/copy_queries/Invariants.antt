use Rattle.std.proofs.Common.{length}
use Rattle.dnw_message_writer.specs.Copying.{query_form}
use Rattle.dnw_message_writer.specs.declared.section.Section.TheVariants.{Queries}
use Rattle.dnw_message_writer.proofs.Passing.{Passing}
use Rattle.dnw_message_writer.proofs.state.WriterState.copy_queries.Given as goal

abbrev pub invariant-queries : goal.invariant-queries
invariant-queries l = Passing Queries query_form l.fn.queries l.fn.self l.fn.message l.queries l.self l.message

abbrev pub decreases-queries : goal.decreases-queries
decreases-queries l = length l.queries

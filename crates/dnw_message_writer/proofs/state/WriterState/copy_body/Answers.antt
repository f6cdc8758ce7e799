use Rattle.std.proofs.Common.{inr}
use Rattle.dnw_message_writer.proofs.state.WriterState.copy_body.Goals as goal

pub returns-in-Err-copy_sections-clause-err : goal.returns-in-Err-copy_sections-clause-err
returns-in-Err-copy_sections-clause-err c =
    inr (inr (inr (c.copy_questions.new.self, c.copy_questions.new.message, c.in-Ok.ensures.ok, c.in-Err-copy_sections.ensures.err)))

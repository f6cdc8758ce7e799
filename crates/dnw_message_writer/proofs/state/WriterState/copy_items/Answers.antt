use Rattle.std.proofs.Common.{inl, inr}
use Rattle.dnw_message_writer.proofs.state.WriterState.copy_items.Goals as goal

pub returns-in-Err-copy_body-clause-err : goal.returns-in-Err-copy_body-clause-err
returns-in-Err-copy_body-clause-err c = inr (inl c.in-Err-copy_body.ensures.err)

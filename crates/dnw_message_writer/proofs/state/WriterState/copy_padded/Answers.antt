use Rattle.dnw_message_writer.proofs.state.WriterState.copy_padded.Goals as goal

pub returns-else-is_err-clause-ok : goal.returns-else-is_err-clause-ok
returns-else-is_err-clause-ok c = rw c.min.ensures at c.copy_or_pad-copied.ensures.ok

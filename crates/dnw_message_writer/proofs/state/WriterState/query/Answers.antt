use Rattle.dnw_message_writer.proofs.state.WriterState.query.Goals as goal

pub returns-else-is_err-clause-ok : goal.returns-else-is_err-clause-ok
returns-else-is_err-clause-ok c = rw c.query_flags-flags.ensures at c.ask-begun.ensures.ok

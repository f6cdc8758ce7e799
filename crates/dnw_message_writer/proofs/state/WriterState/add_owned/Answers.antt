use Rattle.dnw_message_writer.proofs.state.WriterState.add_owned.Goals as goal

pub returns-clause-ok : goal.returns-clause-ok
returns-clause-ok c = rw c.in-Some.ensures at c.record.ensures.ok

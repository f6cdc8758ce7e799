use Rattle.dnw_message_writer.proofs.state.WriterState.add_gathered.Goals as goal

pub returns-clause-ok : goal.returns-clause-ok
returns-clause-ok c = rw c.wire_labels-labels.ensures at c.record.ensures.ok

use Rattle.dnw_message_writer.proofs.Messages.{held_items_are_read, held_items_never_fail, read_messages_have_items}
use Rattle.dnw_message_writer.proofs.laws.held_items_are_read.Goals as goal

pub returns-clause-read : goal.returns-clause-read
returns-clause-read c = held_items_are_read

pub returns-clause-never_fails : goal.returns-clause-never_fails
returns-clause-never_fails c = held_items_never_fail

pub returns-clause-same : goal.returns-clause-same
returns-clause-same c = read_messages_have_items

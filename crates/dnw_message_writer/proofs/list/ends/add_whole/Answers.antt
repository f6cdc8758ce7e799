-- A record with whole names is added, or not.
use Rattle.dnw_message_writer.proofs.list.ends.add_whole.Goals as goal

pub returns-in-Ok-clause-ok : goal.returns-in-Ok-clause-ok
returns-in-Ok-clause-ok c = rw (c.forget_names.ensures, c.whole_item.ensures) at c.in-Ok.ensures.ok

pub returns-in-Err-clause-err : goal.returns-in-Err-clause-err
returns-in-Err-clause-err c = rw (c.forget_names.ensures, c.whole_item.ensures) at c.in-Err.ensures.err

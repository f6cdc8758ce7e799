-- What a record says by EDNS is added, or not.
use Rattle.dnw_message_writer.proofs.list.ends.add_opt.Goals as goal

pub returns-in-Ok-clause-ok : goal.returns-in-Ok-clause-ok
returns-in-Ok-clause-ok c =
    (c.said_with-edns.result, c.said_with-edns.ensures, rw (c.whole_item-held.ensures, c.min-block.ensures, c.from.ensures) at c.in-Ok.ensures.ok)

pub returns-in-Err-clause-err : goal.returns-in-Err-clause-err
returns-in-Err-clause-err c =
    let fails = rw (c.whole_item-held.ensures, c.min-block.ensures, c.from.ensures) at c.in-Err.ensures.err in
    (c.said_with-edns.result, c.said_with-edns.ensures, c.in-Err.error, fails, c.of_write.ensures)

-- A record that is there is not added.
use Rattle.std.proofs.Common.{inr}
use Rattle.dnw_message_writer.proofs.list.fill.add_next.Goals as goal

pub returns-in-Err-clause-err : goal.returns-in-Err-clause-err
returns-in-Err-clause-err c =
    let takes = rw c.again-ahead.ensures at c.in_ok-record.ensures.ok in
    inr (inr (c.octet_at-octet.result, c.in-Some.section, c.in_ok-record.record, c.read_record.new.decoder, c.in-Some.ensures.some, (c.octet_at-octet.ensures, takes), c.in-Err.ensures.err))

-- A question that is there is not added.
use Rattle.std.proofs.Common.{inr}
use Rattle.dnw_message_writer.proofs.list.writing.write_question.Goals as goal

pub returns-in-Err-clause-err : goal.returns-in-Err-clause-err
returns-in-Err-clause-err c =
    let q = c.in_ok-question.question in
    let fails = rw c.wire_labels-name.ensures at c.in-Err.ensures.err in
    inr (q.name, q.query_type, q.class, c.read_question.new.decoder, c.in_ok-question.ensures.ok, (c.in-Err.error, fails, c.of_write.ensures))

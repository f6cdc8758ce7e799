-- A record whose data are these pieces is not added.
use Rattle.std.proofs.Common.{inr}
use Rattle.dnw_c_messages.proofs.writer.add_pieces.Goals as goal

pub returns-in-Err : goal.returns-in-Err
returns-in-Err c =
    let fails = rw c.as_slice-pieces.ensures at c.in-Err.ensures.err in
    (inr (c.in-Some.pieces, c.in-Some.ensures.some, (c.in-Err.error, fails, c.of_write.ensures)), c.in-Err.ensures.same)

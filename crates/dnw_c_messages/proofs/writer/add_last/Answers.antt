-- A record that is given is not added.
use Rattle.std.proofs.Common.{inr}
use Rattle.dnw_c_messages.proofs.writer.add_last.Goals as goal

pub returns-in-Err : goal.returns-in-Err
returns-in-Err c =
    let fails = rw c.as_slice-pieces.ensures at c.in-Err.ensures.err in
    (inr (c.in_ok-owner.owner, c.in_ok-owner.pieces, c.in_ok-owner.ensures.ok, (c.in-Err.error, fails, c.of_write.ensures)), c.in-Err.ensures.same)

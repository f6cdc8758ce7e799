-- A record whose data are one piece is not added.
use Rattle.std.proofs.Common.{[], ◌∷◌, inr}
use Rattle.dnw_c_messages.proofs.writer.add_owned.Goals as goal

pub returns-in-Err : goal.returns-in-Err
returns-in-Err c =
    (inr (c.in-Some.piece ∷ [], c.in-Some.ensures, (c.in-Err.error, c.in-Err.ensures.err, c.of_write.ensures)), c.in-Err.ensures.same)

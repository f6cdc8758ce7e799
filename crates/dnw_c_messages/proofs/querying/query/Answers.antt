use Rattle.std.proofs.Common.{inr}
use Rattle.dnw_c_messages.proofs.querying.query.Goals as goal

pub returns-in-Ok : goal.returns-in-Ok
returns-in-Ok c = (c.in_ok-name.name, c.in_ok-name.ensures.ok, rw c.size_said-size.ensures at c.in-Ok.ensures.ok)

pub returns-in-Err : goal.returns-in-Err
returns-in-Err c =
    let fails = rw c.size_said-size.ensures at c.in-Err.ensures.err in
    (inr (c.in_ok-name.name, c.in_ok-name.ensures.ok, c.in-Err.error, fails, c.of_write.ensures), c.in-Err.ensures.same)

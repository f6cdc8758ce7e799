-- A copied text has the same bytes.
use Rattle.std.proofs.Common.{refl}
use Rattle.dnw_base.proofs.error.ProtoError.clone.Goals as goal

pub returns-in-Msg-clause-ok : goal.returns-in-Msg-clause-ok
returns-in-Msg-clause-ok c =
    rw c.in-Msg.is (c.in_ok-clone-in-Msg.field-0, refl, c.in_ok-clone-in-Msg.ensures.cases)

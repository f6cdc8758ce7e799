use Rattle.std.proofs.Common.{Ok, Err}
use Rattle.dnw_name.proofs.Joins.{HasJoined_label, fails_on}
use Rattle.dnw_name.proofs.name.joining.Joining.push.Goals as goal

pub returns-in_default : goal.returns-in_default
returns-in_default c items h =
    HasJoined_label c.args.self.now items c.args.label.now _ h (rw c.in_default.is (fails_on _ _ _ (rw c.in_default.is at h.labels)))

pub returns-in-Err : goal.returns-in-Err
returns-in-Err c items h =
    let updates = rw c.as_bytes.ensures.bytes at c.in-Err.ensures.updates in
    HasJoined_label c.args.self.now items c.args.label.now (Err c.in-Err.error) h (rw (rw c.in-Ok.is at h.labels) updates.0)

pub returns-in_default-push : goal.returns-in_default-push
returns-in_default-push c items h =
    let updates = rw c.as_bytes.ensures.bytes at c.in_default-push.ensures.updates in
    HasJoined_label c.args.self.now items c.args.label.now (Ok c.push.new.self) h (rw (rw c.in-Ok.is at h.labels) updates)

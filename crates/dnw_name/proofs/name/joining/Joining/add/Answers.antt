use Rattle.dnw_name.proofs.Joins.{HasJoined_fault}
use Rattle.dnw_name.proofs.name.joining.Joining.add.Goals as goal

pub returns-in_default-clause-ok : goal.returns-in_default-clause-ok
returns-in_default-clause-ok g c items h =
    HasJoined_fault c.args.self.now (g.L.IntoLabel.label_of c.args.item) items (rw c.in_default.is at c.in_ok-label.ensures.ok) h

use Rattle.dnw_data.proofs.Checking.{is_right}
use Rattle.dnw_data.proofs.lists.Items.as_bytes.Goals as goal

pub returns-clause-right : goal.returns-clause-right
returns-clause-right c = rw (← c.self.view_is) (is_right c.self.inside.kind c.self.inside.octets.now c.self.invariant)

use Rattle.dnw_name_zones.proofs.Lowered.{name_eq_case_test}
use Rattle.dnw_name_zones.proofs.lower_name.LowerNamePartialEq.eq.Goals as goal

pub returns : goal.returns
returns c = rw (← c.self.view_is, ← c.other.view_is) (name_eq_case_test c.self.inside.0 c.other.inside.0 c.eq_case.result c.eq_case.ensures)

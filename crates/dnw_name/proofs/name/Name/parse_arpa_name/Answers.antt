use Rattle.std.proofs.Common.{refl}
use Rattle.dnw_name_arpa.specs.Arpa.{Relative}
use Rattle.dnw_name.proofs.name.Name.parse_arpa_name.Goals as goal

pub returns-then-not-self : goal.returns-then-not-self
returns-then-not-self c = (Relative, rw (← c.self.view_is, c.if-not-self.true) refl, refl)

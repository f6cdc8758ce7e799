use Rattle.dnw_zone_values.proofs.Steps.{value_some}
use Rattle.dnw_zone_values.proofs.values.nothing_of.Goals as goal

pub returns-in_default : goal.returns-in_default
returns-in_default c = λ own is. value_some c.args.form own c.in_default.not-Nothing is

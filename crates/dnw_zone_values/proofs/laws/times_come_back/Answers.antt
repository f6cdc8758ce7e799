use Rattle.std.proofs.Common.{arith, inl}
use Rattle.dnw_zone_values.proofs.Calendar.{times_agree}
use Rattle.dnw_zone_values.proofs.laws.times_come_back.Goals as goal

pub returns-clause-one : goal.returns-clause-one
returns-clause-one c = times_agree

pub returns-clause-printed : goal.returns-clause-printed
returns-clause-printed c = λ text seconds fits date. inl (seconds, date, omega (arith, fits))

use Rattle.ans_response.proofs.Readings.{one_target, targets_are_read}
use Rattle.ans_response.proofs.laws.one_target.Goals as goal

pub returns-clause-some : goal.returns-clause-some
returns-clause-some c = targets_are_read c.one_reading.ensures.some c.one_reading.ensures.not_both c.one_reading.ensures.one_name

pub returns-clause-one : goal.returns-clause-one
returns-clause-one c = one_target c.one_reading.ensures.some c.one_reading.ensures.not_both c.one_reading.ensures.one_name

use Rattle.dnw_data.proofs.Walking.{some_reading, one_reading}
use Rattle.dnw_data.proofs.laws.one_reading.Goals as goal

pub returns : goal.returns
returns c = record { some = some_reading; one = one_reading }

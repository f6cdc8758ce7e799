use Rattle.dnw_data.proofs.Sets.{sets_come_back}
use Rattle.dnw_data.proofs.record_type_set.laws.sets_come_back.Goals as goal

pub returns : goal.returns
returns c = sets_come_back

use Rattle.dnw_data.proofs.Sets.{not_failed}
use Rattle.dnw_data.proofs.record_data.LowerNameRecordDataDecodable.read_data.Goals as goal

pub returns-clause-accepts : goal.returns-clause-accepts
returns-clause-accepts c name after h = let (ok, there) = c.read.ensures.accepts name after h in not_failed _ _ c.read.result ok

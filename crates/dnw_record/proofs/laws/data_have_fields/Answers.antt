use Rattle.dnw_record.proofs.Pieces.{data_have_fields}
use Rattle.dnw_record.proofs.laws.data_have_fields.Goals as goal

pub returns : goal.returns
returns c = data_have_fields

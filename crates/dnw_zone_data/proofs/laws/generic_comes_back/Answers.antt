use Rattle.dnw_zone_data.proofs.GenericText.{generic}
use Rattle.dnw_zone_data.proofs.laws.generic_comes_back.Goals as goal

pub returns : goal.returns
returns c = generic

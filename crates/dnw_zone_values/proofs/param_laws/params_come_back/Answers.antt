use Rattle.dnw_zone_values.proofs.ParamTextsBack.{params}
use Rattle.dnw_zone_values.proofs.param_laws.params_come_back.Goals as goal

pub returns : goal.returns
returns c = params

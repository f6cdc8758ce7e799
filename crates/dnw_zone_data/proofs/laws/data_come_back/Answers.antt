use Rattle.dnw_zone_data.proofs.DataBack.{back}
use Rattle.dnw_zone_data.proofs.NoFault.{generic_parsed, parsed}
use Rattle.dnw_zone_data.proofs.laws.data_come_back.Goals as goal

pub returns-clause-back : goal.returns-clause-back
returns-clause-back c = back

pub returns-clause-parsed : goal.returns-clause-parsed
returns-clause-parsed c = parsed

pub returns-clause-generic : goal.returns-clause-generic
returns-clause-generic c = generic_parsed

use Rattle.dnw_zone_values.proofs.PrefixesBack.{one_prefix}
use Rattle.dnw_zone_values.proofs.PrefixTextsBack.{prefix_back}
use Rattle.dnw_zone_values.proofs.laws.prefixes_come_back.Goals as goal

pub returns-clause-back : goal.returns-clause-back
returns-clause-back c = prefix_back

pub returns-clause-one : goal.returns-clause-one
returns-clause-one c = one_prefix

use Rattle.dnw_zone_values.proofs.ComeBack.{numbers}
use Rattle.dnw_zone_values.proofs.laws.numbers_come_back.Goals as goal

pub returns : goal.returns
returns c = numbers

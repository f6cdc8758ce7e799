use Rattle.dnw_zone_values.proofs.ComeBack.{hexadecimal, base64, salt}
use Rattle.dnw_zone_values.proofs.laws.octets_come_back.Goals as goal

pub returns-clause-hexadecimal : goal.returns-clause-hexadecimal
returns-clause-hexadecimal c = hexadecimal

pub returns-clause-base64 : goal.returns-clause-base64
returns-clause-base64 c = base64

pub returns-clause-salt : goal.returns-clause-salt
returns-clause-salt c = salt

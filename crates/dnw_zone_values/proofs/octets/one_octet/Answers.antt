use Rattle.std.proofs.Common.{sym, ◌∙◌, arith}
use Rattle.dnw_zone_values.proofs.Base64Fours.{one_spelled}
use Rattle.dnw_zone_values.proofs.octets.one_octet.Goals as goal

pub returns : goal.returns
returns c = one_spelled c.args.a c.args.b c.in_ok-number.number (omega arith) (omega arith) (sym c.base64_number.ensures ∙ c.in_ok-number.was) (omega arith)

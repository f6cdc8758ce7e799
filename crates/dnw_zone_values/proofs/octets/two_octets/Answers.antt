use Rattle.std.proofs.Common.{sym, ◌∙◌, arith}
use Rattle.dnw_zone_values.proofs.Base64Fours.{two_spelled}
use Rattle.dnw_zone_values.proofs.octets.two_octets.Goals as goal

pub returns : goal.returns
returns c = two_spelled c.args.a c.args.b c.args.c c.in_ok-number.number (omega arith) (omega arith) (omega arith) (sym c.base64_number.ensures ∙ c.in_ok-number.was) (omega arith)

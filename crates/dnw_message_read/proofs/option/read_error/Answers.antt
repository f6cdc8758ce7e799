use Rattle.std.proofs.Common.{arith}
use Rattle.dnw_message_read.proofs.Octets.{two_back}
use Rattle.dnw_message_read.proofs.option.read_error.Goals as goal

pub returns-clause-octets : goal.returns-clause-octets
returns-clause-octets c = two_back c.args.octets.now c.in-Some.text.now c.u16_of-code.result c.if-octets-lt2.false (λ i. omega (arith, c.type_inv.octets i)) c.u16_of-code.ensures c.in-Some.ensures.0

use Rattle.std.proofs.Common.{arith}
use Rattle.dnw_message_read.proofs.Octets.{network_back}
use Rattle.dnw_message_read.proofs.option.read_subnet.Goals as goal

pub returns-clause-octets : goal.returns-clause-octets
returns-clause-octets c = network_back c.args.octets.now c.u16_of-family.result c.if-octets-lt4.false (λ i. omega (arith, c.type_inv.octets i)) c.u16_of-family.ensures

use Rattle.std.proofs.Common.{arith}
use Rattle.dnw_message_writer.proofs.Splitting.{plain_field}
use Rattle.dnw_message_writer.proofs.data.own_field.Goals as goal

pub returns-clause-some : goal.returns-clause-some
returns-clause-some c =
    plain_field c.args.kind c.args.octets.now c.in-Some.size c.requires c.in-Some.ensures (omega (arith, c.if-octets-size.false))

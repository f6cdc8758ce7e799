use Rattle.std.proofs.Common.{arith}
use Rattle.dnw_c_base.specs.Offsets.{at_offset}
use Rattle.dnw_c_messages.proofs.Taken.{plain_ends, plain_head, plain_lacks}
use Rattle.dnw_c_messages.proofs.fields.end_of.Goals as goal

pub returns-in-Some-clause-err : goal.returns-in-Some-clause-err
returns-in-Some-clause-err c = plain_lacks c.args.kind c.args.message.now c.args.offset c.in-Some.size c.in-Some.ensures c.if-left-size.true

pub returns-in-Some-2-clause-head : goal.returns-in-Some-2-clause-head
returns-in-Some-2-clause-head c =
    plain_head c.args.kind (at_offset c.args.message.now c.args.offset) c.in-Some.size c.in-Some.ensures (omega (arith, c.if-left-size.false, c.requires))

pub returns-in-Some-2-clause-ok : goal.returns-in-Some-2-clause-ok
returns-in-Some-2-clause-ok c =
    plain_ends c.args.kind c.args.message.now c.args.offset c.in-Some.size c.in-Some.ensures (omega (arith, c.if-left-size.false)) c.requires

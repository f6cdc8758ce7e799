use Rattle.std.proofs.Common.{arith}
use Rattle.ans_tsig.proofs.Same.{compared_all, compared_more}
use Rattle.ans_tsig.proofs.mac.is_same_mac.Goals as goal

pub octets-preserved : goal.octets-preserved
octets-preserved c = compared_more c.args.left.now c.args.right.now c.octets.i c.octets.difference c.octets.invariant

pub returns : goal.returns
returns c = compared_all c.args.left.now c.args.right.now c.octets.i c.octets.difference c.octets.invariant (omega arith) (omega arith)

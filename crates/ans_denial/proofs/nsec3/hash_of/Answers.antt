use Rattle.dns_names_wire.specs.Words.{MayHash}
use Rattle.ans_denial.specs.HashesSeen.{hash_by}
use Rattle.ans_denial.proofs.HashSteps.{ok_hash}
use Rattle.ans_denial.proofs.nsec3.hash_of.Goals as goal

pub returns : goal.returns
unfolding hash_by
returns c = ok_hash (MayHash 1 c.args.hashing.now.iterations c.args.hashing.now.iterations) c.nsec3_hash.result c.unwrap.result _ c.unwrap.ensures c.nsec3_hash.ensures.ok

use Rattle.std.proofs.Common.{◌≤◌, map, subst, ◌∙◌, arith}
use Rattle.ans_denial.specs.HashesSeen.{nsec3_seen}
use Rattle.ans_denial.proofs.HashSteps.{within_bounds}
use Rattle.ans_denial.proofs.denial.denial_by_hashes.Goals as goal

pub returns : goal.returns
returns c =
    c.denied_by_hashes.ensures
    ∙ within_bounds (map nsec3_seen c.args.nsecs.now) c.args.hashing.now c.args.name.now.labels c.args.code c.args.apex.now.labels (omega arith)
    (subst (λ n. n ≤ c.args.hashing.now.most_hashes) c.hash_count.ensures (omega arith))

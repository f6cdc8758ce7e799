use Rattle.std.proofs.Common.{ℕ, List, map, ap, ◌∙◌}
use Rattle.std.specs.List.{find}
use Rattle.ans_denial.specs.Hashes.{has_hash}
use Rattle.ans_denial.specs.HashesSeen.{hash_by, nsec3_seen}
use Rattle.ans_denial.proofs.HashSteps.{whole_found, whole_none}
use Rattle.ans_denial.proofs.nsec3.hashed_existence.Goals as goal

pub returns-in-Some-clause-said : goal.returns-in-Some-clause-said
returns-in-Some-clause-said c =
    let nsecs = map nsec3_seen c.args.nsecs.now in
    whole_found (hash_by c.args.hashing.now) nsecs c.args.apex.now.labels c.args.name.now.labels (nsec3_seen c.in-Some.nsec.now)
    (c.in-Some.ensures ∙ ap (λ (h : List ℕ). find (has_hash h) nsecs) c.hash_of-hash.ensures)

pub returns-clause-said : goal.returns-clause-said
returns-clause-said c =
    let nsecs = map nsec3_seen c.args.nsecs.now in
    c.climb.ensures.said
    ∙ whole_none (hash_by c.args.hashing.now) nsecs c.args.apex.now.labels c.args.name.now.labels
    (c.in_default.ensures ∙ ap (λ (h : List ℕ). find (has_hash h) nsecs) c.hash_of-hash.ensures)

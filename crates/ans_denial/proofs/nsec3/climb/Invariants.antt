use Rattle.std.proofs.Common.{map}
use Rattle.ans_denial.specs.HashesSeen.{hash_by, nsec3_seen}
use Rattle.ans_denial.proofs.HashSteps.{IsHashing}
use Rattle.ans_denial.proofs.nsec3.climb.Given as goal

abbrev pub invariant-up : goal.invariant-up
invariant-up l = IsHashing (hash_by l.hashing) (map nsec3_seen l.nsecs) l.apex.labels l.name.labels l.count l.next

abbrev pub decreases-up : goal.decreases-up
decreases-up l = l.count

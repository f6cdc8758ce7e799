use Rattle.ans_denial.specs.Hashes.{covers_hash}
use Rattle.ans_denial.proofs.HashSteps.{IsFrom}
use Rattle.ans_denial.proofs.nsec3.covering_record.Given as goal

abbrev pub invariant-records : goal.invariant-records
invariant-records l = IsFrom (covers_hash l.hash) l.nsecs l.nsec-index

use Rattle.ans_denial.proofs.Steps.{SaysAll}
use Rattle.ans_denial.proofs.nsec.existence_of.Given as goal

abbrev pub invariant-records : goal.invariant-records
invariant-records l = SaysAll l.nsecs l.name.labels l.nsec-index

use Rattle.ans_denial.specs.Seen.{nsec_seen}
use Rattle.ans_denial.proofs.Steps.{IsClimbing}
use Rattle.ans_denial.proofs.nsec.next_closer_of.Given as goal

abbrev pub invariant-up : goal.invariant-up
invariant-up l = IsClimbing (nsec_seen l.nsec) l.name.labels l.count

abbrev pub decreases-up : goal.decreases-up
decreases-up l = l.count

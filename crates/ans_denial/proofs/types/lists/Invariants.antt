use Rattle.std.proofs.Common.{◌≡◌, length}
use Rattle.ans_denial.specs.Nsecs.{lists}
use Rattle.ans_denial.specs.Seen.{codes}
use Rattle.ans_denial.proofs.types.lists.Given as goal

-- what is left, from here, has what all has from the start
abbrev pub invariant-types : goal.invariant-types
invariant-types l = lists (codes l.fn.types.types) l.code ≡ lists (codes l.left) l.code

abbrev pub decreases-types : goal.decreases-types
decreases-types l = length l.left

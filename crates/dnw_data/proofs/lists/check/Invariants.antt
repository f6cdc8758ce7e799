use Rattle.std.proofs.Common.{length}
use Rattle.dnw_data.specs.Inside.Checking.{Checks}
use Rattle.dnw_data.proofs.lists.check.Given as goal

abbrev pub invariant-items : goal.invariant-items
invariant-items l = Checks l.kind l.octets l.left l.least

abbrev pub decreases-items : goal.decreases-items
decreases-items l = length l.left

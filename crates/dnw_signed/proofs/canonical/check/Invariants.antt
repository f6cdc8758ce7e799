use Rattle.std.proofs.Common.{length}
use Rattle.dnw_signed.specs.Inside.Going.{IsChecking}
use Rattle.dnw_signed.proofs.canonical.check.Given as goal

abbrev pub invariant-records : goal.invariant-records
invariant-records l = IsChecking l.first l.records l.left

abbrev pub decreases-records : goal.decreases-records
decreases-records l = length l.left

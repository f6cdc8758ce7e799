use Rattle.std.proofs.Common.{length}
use Rattle.dnw_signed.specs.Inside.Measuring.{AreMeasured}
use Rattle.dnw_signed.proofs.zone_digest.check_lengths.Given as goal

abbrev pub invariant-records : goal.invariant-records
invariant-records l = AreMeasured l.records l.left

abbrev pub decreases-records : goal.decreases-records
decreases-records l = length l.left

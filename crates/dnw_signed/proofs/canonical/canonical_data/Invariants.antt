use Rattle.std.proofs.Common.{length}
use Rattle.dnw_signed.specs.Inside.Going.{IsListing}
use Rattle.dnw_signed.proofs.canonical.canonical_data.Given as goal

abbrev pub invariant-records : goal.invariant-records
invariant-records l = IsListing l.records l.left l.list

abbrev pub decreases-records : goal.decreases-records
decreases-records l = length l.left

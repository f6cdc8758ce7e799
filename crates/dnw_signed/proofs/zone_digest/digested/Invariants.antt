use Rattle.std.proofs.Common.{length}
use Rattle.std.specs.List.{AllByRecursion}
use Rattle.dnw_signed.specs.ZoneDigests.{HasShortData}
use Rattle.dnw_signed.specs.Inside.Measuring.{AreDigestedBefore, HaveShortData}
use Rattle.dnw_signed.proofs.zone_digest.digested.Given as goal

abbrev pub invariant-records : goal.invariant-records
invariant-records l = record {
  short : HaveShortData l.zone.items;
  fit : AllByRecursion HasShortData l.left;
  before : AreDigestedBefore l.apex.labels l.records l.left l.zone.items;
}

abbrev pub decreases-records : goal.decreases-records
decreases-records l = length l.left

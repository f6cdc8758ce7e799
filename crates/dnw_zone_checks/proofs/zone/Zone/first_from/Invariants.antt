use Rattle.std.proofs.Common.{◌≡◌, ◌<◌, ◌≤◌, ◌-◌, ℕ, true, false, length, get_or}
use Rattle.std.specs.Ordering.{is_lt}
use Rattle.dnw_name_order.specs.Order.{labels_cmp}
use Rattle.dnw_record.specs.Records.{RecordValue}
use Rattle.dnw_zone_checks.proofs.zone.Zone.first_from.Given as goal

abbrev pub invariant-halves : goal.invariant-halves
invariant-halves l = record {
  ordered : l.low ≤ l.high;
  within : l.high ≤ length l.numbers;
  before : (k : ℕ) (d : RecordValue) → k < l.low → is_lt (labels_cmp (get_or l.self.records.now (get_or l.numbers k 0) d).owner l.name) ≡ true;
  others : (k : ℕ) (d : RecordValue) → l.high ≤ k → k < length l.numbers
      → is_lt (labels_cmp (get_or l.self.records.now (get_or l.numbers k 0) d).owner l.name) ≡ false;
}

abbrev pub decreases-halves : goal.decreases-halves
decreases-halves l = l.high - l.low

use Rattle.std.proofs.Common.{◌≡◌, ◌<◌, ◌≤◌, ◌-◌, ℕ, true, false, length, get_or}
use Rattle.std.specs.Ordering.{is_lt}
use Rattle.dns_names_wire.specs.Words.{RecordValue, labels_cmp}
use Rattle.ans_store.proofs.lookup.first_from.Given as goal

abbrev pub invariant-halves : goal.invariant-halves
invariant-halves l = record {
  ordered : l.low ≤ l.high;
  within : l.high ≤ length l.records;
  before : (k : ℕ) (d : RecordValue) → k < l.low → is_lt (labels_cmp (get_or l.records k d).owner l.name.labels) ≡ true;
  others : (k : ℕ) (d : RecordValue) → l.high ≤ k → k < length l.records → is_lt (labels_cmp (get_or l.records k d).owner l.name.labels) ≡ false;
}

abbrev pub decreases-halves : goal.decreases-halves
decreases-halves l = l.high - l.low

use Rattle.std.proofs.Common.{◌≡◌, ◌<◌, ℕ, true, get_or}
use Rattle.dns_names_wire.specs.Words.{RecordValue, is_in}
use Rattle.ans_store.proofs.lookup.first_outside.Given as goal

abbrev pub invariant-records : goal.invariant-records
invariant-records l = (k : ℕ) (d : RecordValue) → k < l.number → is_in l.apex.labels (get_or l.records k d).owner ≡ true

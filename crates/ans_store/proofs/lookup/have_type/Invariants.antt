use Rattle.std.proofs.Common.{◌≡◌, ◌==◌, ◌<◌, ◌≤◌, ℕ, false, get_or}
use Rattle.dns_names_wire.specs.Words.{RecordValue, type_code}
use Rattle.ans_store.proofs.lookup.have_type.Given as goal

abbrev pub invariant-records : goal.invariant-records
invariant-records l =
    (k : ℕ) (d : RecordValue) → l.start ≤ k → k < l.number → (type_code (get_or l.records k d).record_type == l.code) ≡ false

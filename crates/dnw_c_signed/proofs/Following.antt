-- Records that are read, one after another.
use Rattle.std.proofs.Common.{◌≡◌, ℕ, ◌+◌, ◌<◌, ◌≤◌, List, [], ◌∷◌, ◌++◌, length, inr, refl, sym, ap, ◌∙◌, subst, append_assoc, arith}
use Rattle.std.proofs.lemmas.List.{append-nil}
use Rattle.dnw_base.specs.Decoder.{Decoder}
use Rattle.dnw_c_base.specs.declared.failure.Failure.{Failure}
use Rattle.dnw_c_base.specs.declared.failure.Failure.TheVariants as why
use Rattle.dnw_record.proofs.RecordReading.{record_own}
use Rattle.dnw_base.specs.Limits.{max_pointers}
use Rattle.dnw_name_read.specs.Reading.{NameAt}
use Rattle.dnw_name_read.proofs.Unique.{Reads_unique}
use Rattle.dnw_record.specs.Records.{RecordValue, TakesRecord}
use Rattle.dnw_c_signed.specs.RecordCalls.{AreLimitedRecords, AreRecords, FailsToRead, FailsToReadNext, IsNoNextRecord, LimitedRecordAt, TakesNextRecord, no_records, record_first}

-- Records up to a decoder are read: what is left, from there, gives what all give.
pub record IsReading (message : List ℕ) (start : ℕ) (d : Decoder) (left : ℕ) (records : List RecordValue) : Type 0 where
  pub same : d.bytes ≡ message
  pub within : d.index ≤ length message
  pub rest : (more : List RecordValue) (e end : ℕ) → AreRecords message d.index left more e end
      → AreRecords message start max_pointers (records ++ more) e end

-- so a decoder that takes one goes on, within the message
pub takes_on : {d after : Decoder} {r : RecordValue} (most left : ℕ) → TakesNextRecord d most r after left
    → (d.index < after.index) × (after.index ≤ length d.bytes)
takes_on {d} most left (e, at, is) = let (further, inside) = record_own at.0 in (rw is further, rw is inside)

-- the count of pointers is that of the owner
pub limited : {d after : Decoder} {r : RecordValue} (labels : List (List ℕ)) (end k left most : ℕ) → NameAt d.bytes d.index labels end k
    → TakesRecord d r after → left + k ≡ most → TakesNextRecord d most r after left
limited {d} labels end k left most name (e, at, is) sum =
    let (_, _, same) = Reads_unique name.reads at.owner_read.reads in
    (e, (at, ap (λ (n : ℕ). left + n) (sym same) ∙ sum), is)

-- or the owner follows too many
pub too_many : {d after : Decoder} {r : RecordValue} (labels : List (List ℕ)) (end k left : ℕ) → NameAt d.bytes d.index labels end k
    → TakesRecord d r after → left < k → IsNoNextRecord d left why.TooManyPointers
too_many {r = r} labels end k left name (e, at, is) less =
    let (_, _, same) = Reads_unique name.reads at.owner_read.reads in
    inr (r, e, at, omega (arith, less, same), refl)

pub one_more : {message : List ℕ} {start : ℕ} {d after : Decoder} {most left : ℕ} {records : List RecordValue} (r : RecordValue) (now : List RecordValue)
    → IsReading message start d most records → TakesNextRecord d most r after left → now ≡ records ++ r ∷ [] → IsReading message start after left now
one_more {message} {start} {d} {after} {most} {left} {records} r now c (e, at, is) grown =
    let (further, inside) = record_own at.0 in
    let here : LimitedRecordAt message d.index most r e left = subst (λ b. LimitedRecordAt b d.index most r e left) c.same at in
    record {
      same = ap (λ (x : Decoder). x.bytes) is ∙ c.same;
      within = rw is (subst (λ (b : List ℕ). e ≤ length b) c.same inside);
      rest = λ others stop end h.
          let from : AreRecords message e left others stop end = subst (λ (x : Decoder). AreRecords message x.index left others stop end) is h in
          subst (λ all. AreRecords message start max_pointers all stop end) (sym (ap (λ all. all ++ others) grown ∙ append_assoc records (r ∷ []) others))
          (c.rest (r ∷ others) stop end (record_first d.index e stop most left end r others here from));
    }

pub none_yet : (message : List ℕ) (start : ℕ) (d : Decoder) (records : List RecordValue) → d ≡ record { bytes = message; index = start }
    → start ≤ length message → records ≡ [] → IsReading message start d max_pointers records
none_yet message start d records is within empty =
    rw (is, empty) (record { same = refl; within = within; rest = λ more e end h. h })

up_to : {message : List ℕ} {start : ℕ} {d : Decoder} {left : ℕ} {records : List RecordValue} → IsReading message start d left records
    → AreRecords message start max_pointers records d.index left
up_to {message} {start} {d} {left} {records} c =
    subst (λ all. AreRecords message start max_pointers all d.index left) (append-nil records) (c.rest [] d.index left no_records)

pub all_there : {message : List ℕ} {start : ℕ} {d : Decoder} {left : ℕ} {records : List RecordValue} → IsReading message start d left records
    → d.index ≡ length d.bytes → AreLimitedRecords message start records
all_there {message} {start} {left = left} {records = records} c ends =
    (left, subst (λ e. AreRecords message start max_pointers records e left) (ends ∙ ap length c.same) (up_to c))

pub no_more : {message : List ℕ} {start : ℕ} {d : Decoder} {left : ℕ} {records : List RecordValue} (failure : Failure) → IsReading message start d left records
    → (d.index ≡ length d.bytes → ⊥) → FailsToReadNext d left failure → FailsToRead message start failure
no_more {message} {d = d} {left = now} {records = records} failure c left fails =
    let within = c.within in
    let same = c.same in
    let before : d.index < length message = omega (arith, within, λ (e : d.index ≡ length message). left (e ∙ ap length (sym same))) in
    inr (records, d.index, now, up_to c, before, subst (λ (b : List ℕ). FailsToReadNext (record { bytes = b; index = d.index }) now failure) same fails)

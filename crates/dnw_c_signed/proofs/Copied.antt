-- Records that are copied, one after another.
use Rattle.std.proofs.Common.{◌≡◌, ℕ, Some, ◌+◌, ◌<◌, ◌≤◌, List, [], ◌∷◌, ◌++◌, length, refl, sym, ap, ◌∙◌, subst, append_assoc, arith}
use Rattle.std.proofs.lemmas.List.{append-nil}
use Rattle.dnw_base.specs.Decoder.{Decoder}
use Rattle.dnw_c_base.specs.declared.failure.Failure.{Failure}
use Rattle.dnw_record.specs.OwnedRecords.{IsCopyOf}
use Rattle.dnw_record.specs.declared.record.Record.{Record}
use Rattle.dnw_record.proofs.RecordReading.{record_own}
use Rattle.dnw_base.specs.Limits.{max_pointers}
use Rattle.dnw_record.specs.Records.{RecordValue}
use Rattle.dnw_record.specs.DataPointers.{TakesDataPointers}
use Rattle.dnw_c_signed.specs.RecordCalls.{LimitedRecordAt, TakesNextRecord}
use Rattle.dnw_c_signed.specs.ZoneCalls.{AreLimitedCopies, AreRecordCopies, FailsToCopyAll, FailsToCopyNext, copy_first, no_copies}

-- Records up to a decoder are copied: what is left, from there, gives what all give.
pub record AreCopying (records : List ℕ) (d : Decoder) (left : ℕ) (copies : List Record) : Type 0 where
  pub same : d.bytes ≡ records
  pub within : d.index ≤ length records
  pub rest : (more : List Record) (e end : ℕ) → AreRecordCopies records d.index left more e end
      → AreRecordCopies records 0 max_pointers (copies ++ more) e end

pub copied_more : {records : List ℕ} {d after : Decoder} {most left rest : ℕ} {copies : List Record} (r : RecordValue) (copy : Record) (now : List Record)
    → AreCopying records d most copies → TakesNextRecord d most r after left → TakesDataPointers r left (Some rest) → IsCopyOf r copy
    → now ≡ copies ++ copy ∷ [] → AreCopying records after rest now
copied_more {records} {d} {after} {most} {left} {rest} {copies} r copy now c (e, at, is) few like grown =
    let (further, inside) = record_own at.0 in
    let here : LimitedRecordAt records d.index most r e left = subst (λ b. LimitedRecordAt b d.index most r e left) c.same at in
    record {
      same = ap (λ (x : Decoder). x.bytes) is ∙ c.same;
      within = rw is (subst (λ (b : List ℕ). e ≤ length b) c.same inside);
      rest = λ others stop end h.
          let from : AreRecordCopies records e rest others stop end = subst (λ (x : Decoder). AreRecordCopies records x.index rest others stop end) is h in
          subst (λ all. AreRecordCopies records 0 max_pointers all stop end) (sym (ap (λ all. all ++ others) grown ∙ append_assoc copies (copy ∷ []) others))
          (c.rest (copy ∷ others) stop end (copy_first d.index e stop most left rest end r copy others here few like from));
    }

pub none_copied : (records : List ℕ) (d : Decoder) (copies : List Record) → d ≡ record { bytes = records; index = 0 } → copies ≡ []
    → AreCopying records d max_pointers copies
none_copied records d copies is empty = rw (is, empty) (record { same = refl; within = omega arith; rest = λ more e end h. h })

-- the copies so far
up_to : {records : List ℕ} {d : Decoder} {left : ℕ} {copies : List Record} → AreCopying records d left copies
    → AreRecordCopies records 0 max_pointers copies d.index left
up_to {records} {d} {left} {copies} c =
    subst (λ all. AreRecordCopies records 0 max_pointers all d.index left) (append-nil copies) (c.rest [] d.index left no_copies)

pub all_copied : {records : List ℕ} {d : Decoder} {left : ℕ} {copies : List Record} → AreCopying records d left copies → d.index ≡ length d.bytes
    → AreLimitedCopies records copies
all_copied {records} {d} {left} {copies} c ends =
    (left, subst (λ e. AreRecordCopies records 0 max_pointers copies e left) (ends ∙ ap length c.same) (up_to c))

pub copied_up_to : {records : List ℕ} {d : Decoder} {now : ℕ} {copies : List Record} (failure : Failure) → AreCopying records d now copies
    → (d.index ≡ length d.bytes → ⊥) → FailsToCopyNext d now failure → FailsToCopyAll records failure
copied_up_to {records} {d} {now} {copies} failure c left fails =
    let within = c.within in
    let same = c.same in
    let before : d.index < length records = omega (arith, within, λ (e : d.index ≡ length records). left (e ∙ ap length (sym same))) in
    (copies, d.index, now, up_to c, before, subst (λ (b : List ℕ). FailsToCopyNext (record { bytes = b; index = d.index }) now failure) same fails)

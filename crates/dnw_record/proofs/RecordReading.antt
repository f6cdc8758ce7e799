-- At each place there is one record at most, or one error.
use Rattle.std.proofs.Common.{◌≡◌, ◌≢◌, ℕ, ◌+◌, ◌-◌, ◌<◌, ◌≤◌, List, length, Result, Ok, Err, IfOk, true, inl, inr, sym, ap, ◌∙◌, subst, arith, zero-add}
use Rattle.std.specs.Prelude.{⊤}
use Rattle.dnw_base.specs.Decoder.{Decoder, Takes}
use Rattle.dnw_base.proofs.DecoderReads.{Takes_enough}
use Rattle.dnw_base.specs.Names.{NameValue}
use Rattle.dnw_base.specs.declared.error.DecodeError.{DecodeError}
use Rattle.dnw_base.specs.declared.error.DecodeError.TheVariants.{IncorrectRDataLengthRead}
use Rattle.dnw_name_read.specs.Reading.{NameAt, FaultAt, StopsAt, TakesName}
use Rattle.dnw_name_read.proofs.Counts.{Reads_own}
use Rattle.dnw_name_read.proofs.Unique.{Reads_unique, Stops_unique, Reads_not_Stops}
use Rattle.dnw_record.specs.Records.{RecordValue, RecordAt, TakesRecord, FailsRecord, LacksRecord, HasRest, HasDataName, FailsDataName, record_of}

-- a decoder that skips to an index of a message is there
pub started : (message : List ℕ) (index : ℕ) (start : Decoder) (skipped : Result (Unit {0}) DecodeError) (after : Decoder)
    → start ≡ record { bytes = message; index = 0 } → index ≤ length message → Takes start index (λ _. ⊤) skipped after
    → after ≡ record { bytes = message; index = index }
started message index start skipped after is within takes =
    let at : ℕ → Decoder = λ i. record { bytes = message; index = i } in
    let from : Takes (at 0) index (λ _. ⊤) skipped after = subst (λ d. Takes d index (λ _. ⊤) skipped after) is takes in
    (Takes_enough (at 0) index (λ _. ⊤) skipped after (omega arith) from).1 ∙ ap at (zero-add index)

not_both : {b : List ℕ} {p e k followed found : ℕ} {ls : List (List ℕ)} {error : DecodeError} → NameAt b p ls e k → FaultAt b p error followed found → ⊥
not_both h fault = let fits = h.fits in Reads_not_Stops h.reads (omega arith) fault

RecordAt_unique : (b : List ℕ) (p : ℕ) (r r' : RecordValue) (e e' : ℕ) → RecordAt b p r e → RecordAt b p r' e' → (r ≡ r') × (e ≡ e')
RecordAt_unique b p r r' e e' h h' =
    let (labels, ends, _) = Reads_unique h.owner_read.reads h'.owner_read.reads in
    let same : r ≡ r' = h.is ∙ (ap (λ ls. record_of b ls h.owner_end) labels ∙ ap (record_of b h'.labels) ends) ∙ sym h'.is in
    (same, h.ends ∙ ap (λ (x : RecordValue). x.start + x.len) same ∙ sym h'.ends)

-- A record has octets of its own, which are within the message.
pub record_own : {b : List ℕ} {p e : ℕ} {r : RecordValue} → RecordAt b p r e → (p < e) × (e ≤ length b)
record_own {b} {p} {e} at =
    let (further, inside) = Reads_own at.owner_read.reads in
    let end = at.ends ∙ ap (λ (r : RecordValue). r.start + r.len) at.is in
    let rest = at.rest in
    (omega (arith, further, end, rest), omega (arith, end, rest))

pub TakesRecord_unique : (d : Decoder) (r r' : RecordValue) (after after' : Decoder) → TakesRecord d r after → TakesRecord d r' after' → (r ≡ r') × (after ≡ after')
TakesRecord_unique d r r' after after' h h' =
    let (same, ends) = RecordAt_unique d.bytes d.index r r' h.0 h'.0 h.1 h'.1 in
    let at : ℕ → Decoder = λ i. record { bytes = d.bytes; index = i } in
    (same, h.2 ∙ ap at ends ∙ sym h'.2)

has_rest : (b : List ℕ) (p : ℕ) (r : RecordValue) (e : ℕ) → RecordAt b p r e → LacksRecord b p → ⊥
has_rest b p r e h lacks =
    let (_, ends, _) = Reads_unique h.owner_read.reads lacks.3.reads in
    lacks.4 (subst (HasRest b) ends h.rest)

pub TakesRecord_not_Fails : (d : Decoder) (r : RecordValue) (after : Decoder) (error : DecodeError) → TakesRecord d r after → FailsRecord d error → ⊥
TakesRecord_not_Fails d r after error h (inl stops) = not_both h.1.owner_read stops.2
TakesRecord_not_Fails d r after error h (inr lacks) = has_rest d.bytes d.index r h.0 h.1 lacks.0

pub FailsRecord_unique : (d : Decoder) (error other : DecodeError) → FailsRecord d error → FailsRecord d other → error ≡ other
FailsRecord_unique d error other (inl stops) (inl stops') = (Stops_unique stops.2 stops'.2).0
FailsRecord_unique d error other (inl stops) (inr lacks) = absurd (not_both lacks.0.3 stops.2)
FailsRecord_unique d error other (inr lacks) (inl stops) = absurd (not_both lacks.0.3 stops.2)
FailsRecord_unique d error other (inr lacks) (inr lacks') = lacks.1 ∙ sym lacks'.1

-- the same at the start of a message
pub from_start : (result : Result RecordValue DecodeError) (d d' after : Decoder) → d ≡ d' → IfOk result (λ r. TakesRecord d r after)
    → IfOk result (λ r. (after : Decoder) × TakesRecord d' r after)
from_start (Ok r) d d' after same h = (after, subst (λ x. TakesRecord x r after) same h)
from_start (Err e) d d' after same h = tt

-- ---- data that are a name

by_labels : (x y : NameValue) → x.is_fqdn ≡ true → y.is_fqdn ≡ true → x.labels ≡ y.labels → x ≡ y
by_labels x y fqdn fqdn' labels =
    let of : List (List ℕ) → NameValue = λ ls. record { is_fqdn = true; labels = ls } in
    ap (λ b. record { is_fqdn = b; labels = x.labels }) fqdn ∙ (ap of labels ∙ sym (ap (λ b. record { is_fqdn = b; labels = y.labels }) fqdn'))

pub HasDataName_unique : (r : RecordValue) (name other : NameValue) → HasDataName r name → HasDataName r other → name ≡ other
HasDataName_unique r name other h h' = by_labels name other h.0 h'.0 (Reads_unique h.2.reads h'.2.reads).0

pub HasDataName_not_Fails : (r : RecordValue) (name : NameValue) (error : DecodeError) → HasDataName r name → FailsDataName r error → ⊥
HasDataName_not_Fails r name error h (inl stops) = not_both h.2 stops.2
HasDataName_not_Fails r name error h (inr longer) = longer.4 (sym (Reads_unique h.2.reads longer.3.reads).1)

pub FailsDataName_unique : (r : RecordValue) (error other : DecodeError) → FailsDataName r error → FailsDataName r other → error ≡ other
FailsDataName_unique r error other (inl stops) (inl stops') = (Stops_unique stops.2 stops'.2).0
FailsDataName_unique r error other (inl stops) (inr longer) = absurd (not_both longer.3 stops.2)
FailsDataName_unique r error other (inr longer) (inl stops) = absurd (not_both longer.3 stops.2)
FailsDataName_unique r error other (inr longer) (inr longer') =
    longer.5 ∙ (ap (λ e. IncorrectRDataLengthRead (e - r.start) r.len) (Reads_unique longer.3.reads longer'.3.reads).1 ∙ sym longer'.5)

-- Reading a name where the data start: it ends there or after, and it is the data if it has their length.
pub data_name_read : (r now : RecordValue) → r ≡ now → (start : Decoder) (skipped : Result (Unit {0}) DecodeError) (at after : Decoder) (name : NameValue) (index : ℕ)
    → start ≡ record { bytes = r.message; index = 0 } → r.start + r.len ≤ length r.message → Takes start r.start (λ _. ⊤) skipped at
    → (name.is_fqdn ≡ true) × (k : ℕ) × TakesName at after name.labels k → index ≡ after.index
    → (r.start ≤ index) × (index - r.start ≡ r.len → HasDataName now name)
    × (index - r.start ≢ r.len → FailsDataName now (IncorrectRDataLengthRead (index - r.start) r.len))
data_name_read r now same start skipped at after name index is inside takes (fqdn, k, read) there =
    let begins = started r.message r.start start skipped at is (omega (arith, inside)) takes in
    let moved = rw begins at read in
    let (later, within) = Reads_own moved.name.reads in
    let ends : index ≡ moved.end = there ∙ ap (λ (d : Decoder). d.index) moved.moved in
    let le : r.start ≤ index = omega (arith, later, ends) in
    let has : index - r.start ≡ r.len → HasDataName r name = λ length_is.
    let e : moved.end ≡ r.start + r.len = omega (arith, le, ends, length_is) in
    (fqdn, k, subst (λ end. NameAt r.message r.start name.labels end k) e moved.name) in
    let fails : index - r.start ≢ r.len → FailsDataName r (IncorrectRDataLengthRead (index - r.start) r.len) = λ differs.
    let not : moved.end ≢ r.start + r.len = λ e. differs (omega (arith, le, ends, e)) in
    inr (name.labels, moved.end, k, moved.name, not, ap (λ e. IncorrectRDataLengthRead (e - r.start) r.len) ends) in (
      le,
      λ length_is. subst (λ x. HasDataName x name) same (has length_is),
      λ differs. subst (λ x. FailsDataName x (IncorrectRDataLengthRead (index - r.start) r.len)) same (fails differs),
    )

-- If reading a name there stops, so does reading the data as a name.
pub data_name_stops : (r now : RecordValue) → r ≡ now → (start : Decoder) (skipped : Result (Unit {0}) DecodeError) (at : Decoder) (error : DecodeError)
    → start ≡ record { bytes = r.message; index = 0 } → r.start + r.len ≤ length r.message → Takes start r.start (λ _. ⊤) skipped at
    → (k : ℕ) × (j : ℕ) × StopsAt at error k j → FailsDataName now error
data_name_stops r now same start skipped at error is inside takes (k, j, stops) =
    let begins = started r.message r.start start skipped at is (omega (arith, inside)) takes in
    let moved = rw begins at stops in
    subst (λ x. FailsDataName x error) same (inl (k, j, moved))

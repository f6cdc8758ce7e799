-- The next of the items that are left.
use Rattle.std.proofs.Common.{◌≡◌, ℕ, suc, ◌+◌, ◌<◌, List, ◌∷◌, length, map, Result, Ok, Err, IfErr, IsOk, inl, inr, refl, ap, arith}
use Rattle.dnw_base.specs.declared.error.DecodeError.{DecodeError}
use Rattle.dnw_base.specs.Decoder.{Decoder}
use Rattle.dnw_record.specs.Records.{FailsRecord, RecordValue, TakesRecord}
use Rattle.dnw_name_read.specs.Reading.{FaultAt, NameAt}
use Rattle.dnw_name_read.proofs.Unique.{Reads_not_Stops, Reads_unique}
use Rattle.dnw_message_read.specs.Messages.{FailsItem, Item, ItemAt, Rest, record_in, record_rest}
use Rattle.dnw_message_read.specs.Inside.Kept.{AreLeft, items_in}
use Rattle.dnw_message_read.proofs.InTurn.{item_is, one_left}

-- a decoder that takes an item
abbrev pub Takes : {A : Type 0} → Rest → (List ℕ → Item → A) → Decoder → A → Decoder → Type 0
Takes rest of before x after =
    (y : Item) × (e : ℕ) × (k : ℕ) × ItemAt rest before.bytes before.index y e k × (x ≡ of before.bytes y)
    × (after ≡ record { bytes = before.bytes; index = e })

pub record_taken : (before after : Decoder) (r : RecordValue) → TakesRecord before r after → Takes record_rest record_in before r after
record_taken before after r (e, at, is) =
    let ends : e ≡ at.owner_end + record_rest before.bytes at.owner_end = omega (arith, at.ends, ap (λ (x : RecordValue). x.start) at.is, ap (λ (x : RecordValue). x.len) at.is) in
    let inside = at.rest in
    (record { labels = at.labels; name_end = at.owner_end }, e, at.pointers, record { name = at.owner_read; ends = ends; inside = omega (arith, inside, ends) }, at.is, is)

pub record_fails : (before : Decoder) (error : DecodeError) → FailsRecord before error → FailsItem record_rest before.bytes before.index error
record_fails before error (inl stops) = inl stops
record_fails before error (inr ((labels, e, k, name, lacks), is)) =
    let short : length before.bytes < e + record_rest before.bytes e = omega (arith, lacks) in inr (labels, e, k, name, short, is)

pub not_both_lem : {b : List ℕ} {p e k followed found : ℕ} {ls : List (List ℕ)} {error : DecodeError} → NameAt b p ls e k → FaultAt b p error followed found → ⊥
not_both_lem h fault = let fits = h.fits in Reads_not_Stops h.reads (omega arith) fault

-- where an item is, none fails
pub item_not_fails : {rest : Rest} {b : List ℕ} {p e k : ℕ} {x : Item} {error : DecodeError} → ItemAt rest b p x e k → FailsItem rest b p error → ⊥
item_not_fails h (inl stops) = not_both_lem h.name stops.2
item_not_fails {rest} {b} h (inr (labels, e, k, name, short, is)) =
    let (_, ends, _) = Reads_unique h.name.reads name.reads in
    let same = ap (λ i. i + rest b i) ends in omega (arith, h.ends, h.inside, short, same)

-- if one is left, reading it can't fail
pub next_reads : {A : Type 0} (rest : Rest) (d : Decoder) (left n : ℕ) (result : Result A DecodeError) → AreLeft rest d.bytes d.index left → left ≡ suc n
    → IfErr result (FailsItem rest d.bytes d.index) → IsOk result
next_reads rest d left n (Ok x) h is fails = refl
next_reads rest d left n (Err error) h is fails = absurd (item_not_fails (one_left rest d.bytes d.index n (rw is at h)).0.1 fails)

-- what is read is the first of those that are left
pub next_first : {A : Type 0} (rest : Rest) (of : List ℕ → Item → A) (d after : Decoder) (left n : ℕ) (x : A) → AreLeft rest d.bytes d.index left → left ≡ suc n
    → Takes rest of d x after → (map (of d.bytes) (items_in rest d.bytes d.index left) ≡ x ∷ map (of after.bytes) (items_in rest after.bytes after.index n))
    × AreLeft rest after.bytes after.index n
next_first rest of d after left n x h is (y, e, k, at, x_is, moved) =
    let (first, ends) = item_is at in
    let (_, left) = one_left rest d.bytes d.index n (rw is at h) in
    (rw (is, moved, x_is, first, ends) refl, rw (moved, ends) left)

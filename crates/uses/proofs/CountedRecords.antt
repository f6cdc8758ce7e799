-- The records of a type, counted one by one.
use Rattle.std.proofs.Common.{◌≡◌, ◌<◌, ◌+◌, ℕ, suc, List, ◌∷◌, drop, length, get_or, refl, sym, ap, ◌∙◌, arith, drop-cons}
use Rattle.std.proofs.lemmas.Bool.{eq-eqb, ne_eqb}
use Rattle.dns_names_wire.specs.Words.{OwnedRecord, RecordType, type_code}
use Rattle.uses.specs.ZoneFiles.{of_type}

rest_of : (kind : RecordType) (records : List OwnedRecord) (i : ℕ) (found : OwnedRecord) → i < length records → found ≡ get_or records i found
    → of_type kind (drop i records) ≡ of_type kind (found ∷ drop (i + 1) records)
rest_of kind records i found within is =
    ap (of_type kind) (drop-cons records i found within ∙ ap (λ x. x ∷ drop (suc i) records) (sym is) ∙ ap (λ (n : ℕ). found ∷ drop n records) (let e : suc i ≡ i + 1 = omega arith in e))

pub counted : (kind : RecordType) (records : List OwnedRecord) (i count all : ℕ) (found : OwnedRecord) → i < length records → found ≡ get_or records i found
    → count + length (of_type kind (drop i records)) ≡ all → type_code found.body.record_type ≡ type_code kind
    → count + 1 + length (of_type kind (drop (i + 1) records)) ≡ all
counted kind records i count all found within is so_far same =
    let first : of_type kind (found ∷ drop (i + 1) records) ≡ found ∷ of_type kind (drop (i + 1) records) = rw (eq-eqb (type_code found.body.record_type) (type_code kind) same) refl in
    omega (arith, so_far, ap length (rest_of kind records i found within is ∙ first))

pub passed : (kind : RecordType) (records : List OwnedRecord) (i count all : ℕ) (found : OwnedRecord) → i < length records → found ≡ get_or records i found
    → count + length (of_type kind (drop i records)) ≡ all → (type_code found.body.record_type ≡ type_code kind → ⊥)
    → count + length (of_type kind (drop (i + 1) records)) ≡ all
passed kind records i count all found within is so_far other =
    let first : of_type kind (found ∷ drop (i + 1) records) ≡ of_type kind (drop (i + 1) records) = rw (ne_eqb (type_code found.body.record_type) (type_code kind) other) refl in
    omega (arith, so_far, ap length (rest_of kind records i found within is ∙ first))

-- What is printed of data is parsed.
use Rattle.std.proofs.Common.{◌≡◌, ◌⊎◌, ℕ, List, inl, inr, sym, subst}
use Rattle.std.specs.Prelude.{Option, ◌<◌, slice_index}
use Rattle.dns_names_wire.specs.Words.{DataComeBack, DataTextError, FailsText, GenericIsParsed, IsDataText, NameValue, OutOfMemory, RecordValue, TextsAreParsed, class_code, fields_of, number_forms, type_code}
use Rattle.uses.specs.Texts.{HasLongData, HasNoFields}

-- a text that was printed fails for memory, for the size of the data, or since they are no data of their type
pub why : DataComeBack → TextsAreParsed → GenericIsParsed → (origin : Option NameValue) (r : RecordValue) (len : ℕ) (octets text : List ℕ) (error : DataTextError)
    → ((i : ℕ) → slice_index octets i < 256) → r.message ≡ octets → IsDataText r text → FailsText origin (number_forms (type_code r.record_type)) (fields_of (class_code r.class) (type_code r.record_type)) len text error
    → (error ≡ OutOfMemory) ⊎ HasLongData octets ⊎ HasNoFields octets
why back parsed generic origin r len octets text error bytes is print fails =
    let (own, plain, done) = back origin r text (subst (λ (b : List ℕ). (i : ℕ) → slice_index b i < 256) (sym is) bytes) print in
    elim done [
      | inl many ↦ inr (inl (r, own, is, plain, many))
      | inr (inl shown) ↦ elim (generic origin (number_forms (type_code r.record_type)) (fields_of (class_code r.class) (type_code r.record_type)) len text own error shown fails) [
        | inl memory ↦ inl memory
        | inr none ↦ inr (inr (r, own, is, plain, none))
      ]
      | inr (inr text_is) ↦ inl (parsed origin (number_forms (type_code r.record_type)) (fields_of (class_code r.class) (type_code r.record_type)) len text own error text_is fails)
    ]

-- The fields of the data of a record, one after another, up to where the data end.
use Rattle.std.specs.Prelude.{◌≡◌, ℕ, ◌+◌, ◌-◌, Option, Some, None, Result, Ok, Err, List, [], ◌∷◌, length}
use Rattle.dnw_base.specs.declared.error.DecodeError.{DecodeError}
use Rattle.dnw_base.specs.declared.error.DecodeError.TheVariants.{IncorrectRDataLengthRead}
use Rattle.dnw_base.specs.Decoder.{Decoder}
use Rattle.dnw_data.specs.declared.kind.Kind.{Kind}
use Rattle.dnw_data.specs.declared.field.Field.{Field}
use Rattle.dnw_data.specs.declared.fields.FieldError.{FieldError}
use Rattle.dnw_data.specs.Values.{FieldValue, seen}
use Rattle.dnw_data.specs.Fields.{TakesField, FailsField}

-- What is left of the fields: a reader of the message up to where the data end, where they start, the kinds of the fields
-- that are left, and how many there were.
pub record FieldsLeft : Type 0 where
  pub reader : Decoder
  pub start : ℕ
  pub kinds : List Kind
  pub count : ℕ

-- fields of these kinds, which start there
abbrev pub fields_at : List ℕ → ℕ → List Kind → FieldsLeft
fields_at message start kinds =
    record { reader = record { bytes = message; index = start }; start = start; kinds = kinds; count = length kinds }

-- no octet is left
abbrev pub IsAtEnd : Decoder → Type 0
IsAtEnd d = d.index ≡ length d.bytes

abbrev pub IsEnded : FieldsLeft → Type 0
IsEnded left = (left.kinds ≡ []) × IsAtEnd left.reader

-- There is no next field, for this reason: its kind's, or octets are left after the last.
abbrev pub FailsNext : List Kind → Decoder → ℕ → DecodeError → Type 0
FailsNext [] d start cause = (¬ (IsAtEnd d)) × (cause ≡ IncorrectRDataLengthRead (d.index - start) (length d.bytes - start))
FailsNext (kind ∷ kinds) d start cause = FailsField kind d cause

-- The first of the kinds is read, and the others are left.
abbrev pub TakesNext : List Kind → Decoder → FieldValue → Decoder → List Kind → Type 0
TakesNext [] d value after left = ⊥
TakesNext (kind ∷ kinds) d value after left = TakesField kind d value after × (left ≡ kinds)

-- The data are fields of these kinds with these values up to their end, or these are followed by a field that is none, for
-- this reason. Its number is the number of these values.
abbrev pub FieldsAre : ℕ → List Kind → Decoder → List FieldValue → Option DecodeError → Type 0
FieldsAre start kinds d [] None = (kinds ≡ []) × IsAtEnd d
FieldsAre start kinds d [] (Some cause) = FailsNext kinds d start cause
FieldsAre start kinds d (value ∷ values) outcome =
    (after : Decoder) × (left : List Kind) × TakesNext kinds d value after left × FieldsAre start left after values outcome

-- The next field is read, or the first error ends the fields.
abbrev pub NextField : FieldsLeft → Option (Result Field FieldError) → FieldsLeft → Type 0
NextField before None after = IsEnded before × (after ≡ before)
NextField before (Some (Ok field)) after =
    TakesNext before.kinds before.reader (seen field) after.reader after.kinds × (after.start ≡ before.start) × (after.count ≡ before.count)
NextField before (Some (Err error)) after =
    (error.field ≡ before.count - length before.kinds) × FailsNext before.kinds before.reader before.start error.cause × IsEnded after

-- no more items come than this
abbrev pub steps_left : FieldsLeft → ℕ
steps_left left = length left.kinds + (length left.reader.bytes - left.reader.index)

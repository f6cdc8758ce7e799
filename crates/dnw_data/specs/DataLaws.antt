-- What follows from the definitions of fields. Each is the clause of a public function, and so proved.
use Rattle.std.specs.Prelude.{◌≡◌, ℕ, Option, Some, None, Result, Ok, Err, List, [], ◌∷◌, ◌++◌, length, map}
use Rattle.std.specs.Iterator.{AlwaysYields}
use Rattle.dnw_base.specs.declared.error.DecodeError.{DecodeError}
use Rattle.dnw_base.specs.Decoder.{Decoder}
use Rattle.dnw_data.specs.declared.kind.Kind.{Kind}
use Rattle.dnw_data.specs.declared.field.Field.{Field}
use Rattle.dnw_data.specs.declared.fields.FieldError.{FieldError}
use Rattle.dnw_data.specs.Values.{FieldValue, seen}
use Rattle.dnw_data.specs.Walks.{FieldsAre, NextField, fields_at}

-- Octets are fields of any kinds up to the end, or up to a first one that is none.
abbrev pub SomeReading : Type 0
SomeReading = (start : ℕ) (kinds : List Kind) (d : Decoder)
    → (values : List FieldValue) × (outcome : Option DecodeError) × FieldsAre start kinds d values outcome

-- Data are fields in one way at most: the values, and the first error, are unique.
abbrev pub OneReading : Type 0
OneReading = (start : ℕ) (kinds : List Kind) (d : Decoder) (values others : List FieldValue) (outcome other : Option DecodeError)
    → FieldsAre start kinds d values outcome → FieldsAre start kinds d others other → (values ≡ others) × (outcome ≡ other)

-- what a caller sees of an item: a value, or the number of a field and an error
abbrev pub shown : Result Field FieldError → Result FieldValue (ℕ × DecodeError)
shown (Ok field) = Ok (seen field)
shown (Err error) = Err (error.field, error.cause)

-- the error of the field with this number, if there is one
abbrev pub error_item : ℕ → Option DecodeError → List (Result FieldValue (ℕ × DecodeError))
error_item number None = []
error_item number (Some cause) = Err (number, cause) ∷ []

-- The iterator over fields yields the values of data that are fields, and then the first error, with the field's number.
abbrev pub FieldsAreWalked : Type 0
FieldsAreWalked = (message : List ℕ) (start : ℕ) (kinds : List Kind) (values : List FieldValue) (outcome : Option DecodeError)
    → FieldsAre start kinds (record { bytes = message; index = start }) values outcome
    → AlwaysYields NextField shown (fields_at message start kinds) (map Ok values ++ error_item (length values) outcome)

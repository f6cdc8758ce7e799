-- The fields of the data of a record. A decoder reads a message up to where the data end: so a field's own octets end there
-- too, while pointers lead anywhere before.
use Rattle.std.specs.Prelude.{◌≡◌, ℕ, Some, None, List, drop, ◌⊎◌}
use Rattle.dnw_base.specs.declared.error.DecodeError.{DecodeError}
use Rattle.dnw_base.specs.declared.error.DecodeError.TheVariants.{InsufficientBytes}
use Rattle.dnw_base.specs.Decoder.{Decoder, HasLeft, next_bytes, advanced}
use Rattle.dnw_name_read.specs.Reading.{TakesName, StopsAt}
use Rattle.dnw_data.specs.declared.kind.Kind.{Kind}
use Rattle.dnw_data.specs.declared.kind.Kind.TheVariants.{Name}
use Rattle.dnw_data.specs.Values.{FieldValue, name, own_size, own_fault, own_value}

-- how many octets the field at the cursor takes, if it is no name
abbrev pub size_at : Kind → Decoder → ℕ
size_at kind d = own_size kind (drop d.index d.bytes)

-- those octets
abbrev pub own_at : Kind → Decoder → List ℕ
own_at kind d = next_bytes d (size_at kind d)

-- The octets of a field of this kind are left, and it has this value.
abbrev pub TakesOwn : Kind → Decoder → FieldValue → Decoder → Type 0
TakesOwn kind before value after =
    HasLeft before (size_at kind before) × (own_fault kind (own_at kind before) ≡ None)
    × (value ≡ own_value kind (own_at kind before)) × (after ≡ advanced before (size_at kind before))

-- The octets of a field of this kind are not all left, or they are none.
abbrev pub FailsOwn : Kind → Decoder → DecodeError → Type 0
FailsOwn kind before error =
    ((¬ (HasLeft before (size_at kind before))) × (error ≡ InsufficientBytes))
    ⊎ (HasLeft before (size_at kind before) × (own_fault kind (own_at kind before) ≡ Some error))

-- A name is read, and the labels are the value.
abbrev pub TakesNameField : Decoder → FieldValue → Decoder → Type 0
TakesNameField before value after = (ls : List (List ℕ)) × (k : ℕ) × TakesName before after ls k × (value ≡ name ls)

-- Reading a name stops with this error.
abbrev pub FailsName : Decoder → DecodeError → Type 0
FailsName before error = (k : ℕ) × (j : ℕ) × StopsAt before error k j

-- The decoder was at a field of this kind with this value, and is after it now.
abbrev pub TakesField : Kind → Decoder → FieldValue → Decoder → Type 0
TakesField (Name form) before value after = TakesNameField before value after
TakesField kind before value after = TakesOwn kind before value after

-- The decoder is at no field of this kind, for this reason.
abbrev pub FailsField : Kind → Decoder → DecodeError → Type 0
FailsField (Name form) before error = FailsName before error
FailsField kind before error = FailsOwn kind before error

-- What the functions for C put of the fields of the data of a record, and why there is no next one.
use Rattle.std.specs.Prelude.{◌≡◌, ◌<◌, ◌≤◌, ◌⊎◌, ℕ, ◌+◌, ◌-◌, Option, Some, None, List, drop, length, slice_get, Result}
use Rattle.dnw_data.specs.Fields.{FailsField, TakesField}
use Rattle.dnw_data.specs.Table.{fields_of}
use Rattle.dnw_data.specs.Values.{FieldValue}
use Rattle.dnw_data.specs.declared.kind.Kind.{Kind}
use Rattle.dnw_data.specs.declared.kind.Kind.TheVariants as kinds
use Rattle.dnw_data.specs.declared.kind.ListKind.TheVariants as lists
use Rattle.dnw_data.specs.declared.kind.Shape.TheVariants as shapes
use Rattle.dnw_data.specs.declared.kind.Shown.TheVariants.{Text, Tag}
use Rattle.dnw_base.specs.declared.error.DecodeError.{DecodeError}
use Rattle.dnw_c_base.specs.Failures.{of_decode}
use Rattle.dnw_c_base.specs.Offsets.{at_offset}
use Rattle.dnw_c_base.specs.Results.{GivesOr}
use Rattle.dnw_c_base.specs.declared.failure.Failure.{Failure}
use Rattle.dnw_c_base.specs.declared.failure.Failure.TheVariants.{MessageCut, WrongDataLength}
use Rattle.dnw_c_messages.specs.declared.fields.FieldCursor.{FieldCursor}
use Rattle.dnw_c_messages.specs.declared.fields.ReadField.{ReadField}

-- The number of a kind. The end of the data has 0.
abbrev pub field_kind : Kind → ℕ
field_kind (kinds.Name form) = 1
field_kind kinds.U8 = 2
field_kind kinds.U16 = 2
field_kind kinds.U32 = 2
field_kind kinds.U48 = 2
field_kind kinds.U64 = 2
field_kind kinds.LongTime = 2
field_kind kinds.Locator = 2
field_kind kinds.NodeNumber = 2
field_kind kinds.ChaosAddress = 2
field_kind kinds.Ipv4 = 3
field_kind kinds.Ipv6 = 4
field_kind kinds.TypeCode = 5
field_kind kinds.Time = 6
field_kind (kinds.Counted Text) = 7
field_kind (kinds.Counted Tag) = 7
field_kind (kinds.Octets Text) = 7
field_kind (kinds.Counted shown) = 8
field_kind (kinds.LongCounted shown) = 8
field_kind (kinds.Octets shown) = 8
field_kind (kinds.List lists.Texts) = 9
field_kind (kinds.List lists.Types) = 10
field_kind (kinds.List lists.Params) = 11
field_kind (kinds.Shaped shapes.Location) = 12
field_kind (kinds.Shaped shapes.Gateway) = 13
field_kind (kinds.Shaped shapes.Relay) = 14
field_kind (kinds.Shaped shapes.HostIdentity) = 15
field_kind (kinds.List lists.Prefixes) = 16
field_kind (kinds.List lists.Names) = 17
field_kind (kinds.Shaped shapes.AddressSuffix) = 18

-- how many octets of a field are before its value: the length of octets that are counted
abbrev pub head_of : Kind → ℕ
head_of (kinds.Counted shown) = 1
head_of (kinds.LongCounted shown) = 2
head_of kind = 0

-- what C learns of a field that goes from p to e
abbrev pub read_field : Kind → ℕ → ℕ → ReadField
read_field kind p e = record { kind = field_kind kind; offset = p + head_of kind; len = e - (p + head_of kind) }

-- A field of this kind goes from p to e.
abbrev pub EndsAt : Kind → List ℕ → ℕ → ℕ → Type 0
EndsAt kind octets p e = (value : FieldValue) × TakesField kind (at_offset octets p) value (at_offset octets e)

-- A field of this kind is at the cursor, and the cursor is after it now.
abbrev pub TakesAs : Kind → List ℕ → FieldCursor → FieldCursor → ReadField → Type 0
TakesAs kind octets before after field =
    EndsAt kind octets before.offset after.offset × (after.number ≡ before.number + 1) × (field ≡ read_field kind before.offset after.offset)

-- There is none.
abbrev pub FailsToTakeField : Kind → List ℕ → ℕ → Failure → Type 0
FailsToTakeField kind octets p failure = (error : DecodeError) × FailsField kind (at_offset octets p) error × (failure ≡ of_decode error)

-- A field of this kind is at the cursor; without a kind there are no more, and the data end there.
abbrev pub TakesNextField : Option Kind → List ℕ → FieldCursor → FieldCursor → ReadField → Type 0
TakesNextField None octets before after field =
    (before.offset ≡ length octets) × (after ≡ before) × (field ≡ record { kind = 0; offset = before.offset; len = 0 })
TakesNextField (Some kind) octets before after field = TakesAs kind octets before after field

-- It is not; without a kind, octets are left.
abbrev pub FailsNextField : Option Kind → List ℕ → ℕ → Failure → Type 0
FailsNextField None octets p failure = (p < length octets) × (failure ≡ WrongDataLength)
FailsNextField (Some kind) octets p failure = FailsToTakeField kind octets p failure

-- the kind of the field with this number of these data, by the codes of type and class
abbrev pub kind_at : ℕ → ℕ → List ℕ → ℕ → Option Kind
kind_at code class own number = slice_get (fields_of class code own) number

-- The next field of data of this type and class, by their codes, which begin there and end where the octets do, is the value, or
-- there are no more, and where the cursor is after it. Else the start or the cursor is past the octets, or no such field is there.
abbrev pub ReadsNextField : List ℕ → ℕ → ℕ → ℕ → FieldCursor → Result (ReadField × FieldCursor) Failure → Type 0
ReadsNextField octets start code class at =
    let kind = kind_at code class (drop start octets) at.number in
    GivesOr
    (λ found. (at.offset ≤ length octets) × (start ≤ length octets) × TakesNextField kind octets at found.1 found.0)
    (λ failure. (((length octets < at.offset) ⊎ (length octets < start)) × (failure ≡ MessageCut))
    ⊎ ((at.offset ≤ length octets) × (start ≤ length octets) × FailsNextField kind octets at.offset failure))

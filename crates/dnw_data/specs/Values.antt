-- The values of fields, and which octets they are.
use Rattle.std.specs.Prelude.{ℕ, ◌+◌, max, Option, None, List, ◌∷◌, length, drop, slice_index, slice_range, nat_lt, if◌then◌else◌}
use Rattle.std.specs.Int.{w16, w32, w64, from_be_bytes}
use Rattle.std.specs.Net.Addr.{ipv4_octets, ipv6_segments, segments_of}
use Rattle.dnw_base.specs.declared.error.DecodeError.{DecodeError}
use Rattle.dnw_base.specs.declared.record_type.RecordType.{RecordType}
use Rattle.dnw_base.specs.RecordTypes.{type_of_code}
use Rattle.dnw_data.specs.declared.kind.Kind.{Kind}
use Rattle.dnw_data.specs.declared.kind.Kind.TheVariants as kinds
use Rattle.dnw_data.specs.declared.kind.ListKind.TheVariants as lists
use Rattle.dnw_data.specs.declared.kind.ListKind.{ListKind}
use Rattle.dnw_data.specs.declared.field.Field.{Field}
use Rattle.dnw_data.specs.declared.field.Field.TheVariants as fields
use Rattle.dnw_data.specs.Lists.{ItemsValue, list_fault}
use Rattle.dnw_data.specs.Shapes.{ShapedValue, shape_size, shape_fault}

-- The value of a field: the labels of a name, a number, an address by its octets or segments, a record type, octets without
-- their length before them, octets of a shape, all octets that are left, or a list.
pub data FieldValue : Type 0 where
  name : List (List ℕ) → FieldValue
  u8 : ℕ → FieldValue
  u16 : ℕ → FieldValue
  u32 : ℕ → FieldValue
  u48 : ℕ → FieldValue
  u64 : ℕ → FieldValue
  ipv4 : List ℕ → FieldValue
  ipv6 : List ℕ → FieldValue
  type_code : RecordType → FieldValue
  time : ℕ → FieldValue
  counted : List ℕ → FieldValue
  octets : List ℕ → FieldValue
  texts : ItemsValue → FieldValue
  types : ItemsValue → FieldValue
  params : ItemsValue → FieldValue
  prefixes : ItemsValue → FieldValue
  names : ItemsValue → FieldValue
  long_counted : List ℕ → FieldValue
  shaped : ShapedValue → FieldValue

-- what a contract sees of a field
abbrev pub seen : Field → FieldValue
seen (fields.Name labels) = name labels
seen (fields.U8 n) = u8 n
seen (fields.U16 n) = u16 n
seen (fields.U32 n) = u32 n
seen (fields.U48 n) = u48 n
seen (fields.U64 n) = u64 n
seen (fields.Ipv4 address) = ipv4 (ipv4_octets address)
seen (fields.Ipv6 address) = ipv6 (ipv6_segments address)
seen (fields.TypeCode kind) = type_code kind
seen (fields.Time seconds) = time seconds
seen (fields.Counted bytes) = counted bytes.now
seen (fields.Octets bytes) = octets bytes.now
seen (fields.Texts items) = texts items
seen (fields.Types items) = types items
seen (fields.Params items) = params items
seen (fields.Prefixes items) = prefixes items
seen (fields.Names items) = names items
seen (fields.LongCounted bytes) = long_counted bytes.now
seen (fields.Shaped own) = shaped own

-- a length octet, and what it counts
abbrev pub counted_size : List ℕ → ℕ
counted_size left = 1 + slice_index left 0

-- a length of two octets, and what it counts
abbrev pub long_counted_size : List ℕ → ℕ
long_counted_size left = if nat_lt (length left) 2 then 2 else 2 + from_be_bytes w16 (slice_range left 0 2)

-- how many octets a field other than a name takes of those that are left
abbrev pub own_size : Kind → List ℕ → ℕ
own_size kinds.U8 left = 1
own_size kinds.U16 left = 2
own_size kinds.U32 left = 4
own_size kinds.U48 left = 6
own_size kinds.U64 left = 8
own_size kinds.Ipv4 left = 4
own_size kinds.Ipv6 left = 16
own_size kinds.TypeCode left = 2
own_size kinds.Time left = 4
own_size kinds.LongTime left = 6
own_size kinds.Locator left = 8
own_size kinds.NodeNumber left = 8
own_size kinds.ChaosAddress left = 2
own_size (kinds.Counted shown) left = counted_size left
own_size (kinds.LongCounted shown) left = long_counted_size left
own_size (kinds.Shaped shape) left = shape_size shape left
own_size (kinds.List lists.Texts) left = max 1 (length left)
own_size kind left = length left

-- why these octets are no field other than a name, if they are none
abbrev pub own_fault : Kind → List ℕ → Option DecodeError
own_fault (kinds.List kind) own = list_fault kind own
own_fault (kinds.Shaped shape) own = shape_fault shape own
own_fault kind own = None

-- the items that octets are
abbrev pub items : ListKind → List ℕ → ItemsValue
items kind own = record { kind = kind; octets = own }

-- the value of a field other than a name, by its octets
abbrev pub own_value : Kind → List ℕ → FieldValue
own_value kinds.U8 own = u8 (slice_index own 0)
own_value kinds.U16 own = u16 (from_be_bytes w16 own)
own_value kinds.U32 own = u32 (from_be_bytes w32 own)
own_value kinds.U48 own = u48 (from_be_bytes w64 (0 ∷ 0 ∷ own))
own_value kinds.U64 own = u64 (from_be_bytes w64 own)
own_value kinds.Ipv4 own = ipv4 own
own_value kinds.Ipv6 own = ipv6 (segments_of own)
own_value kinds.TypeCode own = type_code (type_of_code (from_be_bytes w16 own))
own_value kinds.Time own = time (from_be_bytes w32 own)
own_value kinds.LongTime own = u48 (from_be_bytes w64 (0 ∷ 0 ∷ own))
own_value kinds.Locator own = u64 (from_be_bytes w64 own)
own_value kinds.NodeNumber own = u64 (from_be_bytes w64 own)
own_value kinds.ChaosAddress own = u16 (from_be_bytes w16 own)
own_value (kinds.Counted shown) own = counted (drop 1 own)
own_value (kinds.LongCounted shown) own = long_counted (drop 2 own)
own_value (kinds.Shaped shape) own = shaped (record { shape = shape; octets = own })
own_value (kinds.Octets shown) own = octets own
own_value (kinds.List lists.Texts) own = texts (items lists.Texts own)
own_value (kinds.List lists.Types) own = types (items lists.Types own)
own_value (kinds.List lists.Params) own = params (items lists.Params own)
own_value (kinds.List lists.Prefixes) own = prefixes (items lists.Prefixes own)
own_value (kinds.List lists.Names) own = names (items lists.Names own)
own_value (kinds.Name form) own = octets own

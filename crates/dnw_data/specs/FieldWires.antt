-- The octets that fields are: names are not compressed, and numbers have the high octet first (RFC 1035, sections 2.3.2 and
-- 3.1).
use Rattle.std.specs.Prelude.{◌≡◌, ℕ, ◌<◌, ◌^◌, Bool, true, false, None, List, ◌∷◌, [], ◌++◌, drop, length}
use Rattle.std.specs.Int.{w16, w32, w64, to_be_bytes}
use Rattle.std.specs.Net.Addr.{octets_of}
use Rattle.dnw_base.specs.Limits.{max_data}
use Rattle.dnw_base.specs.Names.{AreLabels, label_wire, wire}
use Rattle.dnw_base.specs.RecordTypes.{type_code as code_of}
use Rattle.dnw_data.specs.Lists.{list_fault}
use Rattle.dnw_data.specs.Shapes.{IsShaped}
use Rattle.dnw_data.specs.Values.{FieldValue, name, u8, u16, u32, u48, u64, ipv4, ipv6, type_code, time, counted, octets, texts, types, params}
use Rattle.dnw_data.specs.Values.{prefixes, names, long_counted, shaped}

abbrev pub field_wire : FieldValue → List ℕ
field_wire (name labels) = wire labels
field_wire (u8 n) = n ∷ []
field_wire (u16 n) = to_be_bytes w16 n
field_wire (u32 n) = to_be_bytes w32 n
field_wire (u48 n) = drop 2 (to_be_bytes w64 n)
field_wire (u64 n) = to_be_bytes w64 n
field_wire (ipv4 own) = own
field_wire (ipv6 segments) = octets_of segments
field_wire (type_code code) = to_be_bytes w16 (code_of code)
field_wire (time n) = to_be_bytes w32 n
field_wire (counted own) = label_wire own
field_wire (octets own) = own
field_wire (texts own) = own.octets
field_wire (types own) = own.octets
field_wire (params own) = own.octets
field_wire (prefixes own) = own.octets
field_wire (names own) = own.octets
field_wire (long_counted own) = to_be_bytes w16 (length own) ++ own
field_wire (shaped own) = own.octets

-- Octets that their length cannot count: one octet has no number above 255, and two none above 65535.
abbrev pub IsLong : FieldValue → Type 0
IsLong (counted own) = 255 < length own
IsLong (long_counted own) = max_data < length own
IsLong value = ⊥

-- The octets of the field are appended, or they are too many for its length, and nothing is.
abbrev pub AppendsWire : FieldValue → List ℕ → List ℕ → Bool → Type 0
AppendsWire value old new true = new ≡ old ++ field_wire value
AppendsWire value old new false = IsLong value × (new ≡ old)

-- What the type of a field says of its value: labels are labels, numbers fit, addresses are whole, items are in order, and
-- octets of a shape have it.
abbrev pub IsFieldValue : FieldValue → Type 0
IsFieldValue (name labels) = AreLabels labels
IsFieldValue (u8 n) = n < 2 ^ 8
IsFieldValue (u16 n) = n < 2 ^ 16
IsFieldValue (u32 n) = n < 2 ^ 32
IsFieldValue (u48 n) = n < 2 ^ 64
IsFieldValue (u64 n) = n < 2 ^ 64
IsFieldValue (ipv4 own) = length own ≡ 4
IsFieldValue (ipv6 segments) = length segments ≡ 8
IsFieldValue (type_code code) = code_of code < 2 ^ 16
IsFieldValue (time n) = n < 2 ^ 32
IsFieldValue (counted own) = Unit {0}
IsFieldValue (octets own) = Unit {0}
IsFieldValue (texts own) = list_fault own.kind own.octets ≡ None
IsFieldValue (types own) = list_fault own.kind own.octets ≡ None
IsFieldValue (params own) = list_fault own.kind own.octets ≡ None
IsFieldValue (prefixes own) = list_fault own.kind own.octets ≡ None
IsFieldValue (names own) = list_fault own.kind own.octets ≡ None
IsFieldValue (long_counted own) = Unit {0}
IsFieldValue (shaped own) = IsShaped own.shape own.octets

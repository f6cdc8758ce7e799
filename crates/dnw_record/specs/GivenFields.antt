-- Fields that are given, and whether they are the fields of kinds.
use Rattle.std.specs.Prelude.{◌≡◌, ℕ, ◌+◌, ◌<◌, ◌≤◌, ◌^◌, ◌⊎◌, List, [], ◌∷◌, length}
use Rattle.dnw_base.specs.declared.dns_class.DNSClass.{DNSClass}
use Rattle.dnw_base.specs.declared.record_type.RecordType.{RecordType}
use Rattle.dnw_base.specs.Limits.{max_data}
use Rattle.dnw_base.specs.RecordTypes.{type_code as code_of, type_of_code}
use Rattle.dnw_data.specs.declared.kind.Kind.{Kind}
use Rattle.dnw_data.specs.declared.kind.Kind.TheVariants as kinds
use Rattle.dnw_data.specs.declared.kind.ListKind.TheVariants as lists
use Rattle.dnw_data.specs.Values.{FieldValue, name, u8, u16, u32, u48, u64, ipv4, ipv6, type_code, time, counted, octets, texts, types, params}
use Rattle.dnw_data.specs.Values.{prefixes, names, long_counted, shaped}
use Rattle.dnw_record.specs.DataPieces.{kinds_of}
use Rattle.dnw_record.specs.declared.from_fields.FromFieldsError.{FromFieldsError}
use Rattle.dnw_record.specs.declared.from_fields.FromFieldsError.TheVariants.{Mismatch, Missing, TooMany}

-- A field of this kind has this value: a number of six octets fits, a type is the one that its code is read as, the length
-- can count the octets (in one octet, RFC 1035, section 3.3, or in two, RFC 2930, section 2.7), and there is a character string
-- at least (RFC 1035, section 3.3.14).
abbrev pub IsFieldOf : Kind → FieldValue → Type 0
IsFieldOf (kinds.Name form) (name labels) = Unit {0}
IsFieldOf kinds.U8 (u8 n) = Unit {0}
IsFieldOf kinds.U16 (u16 n) = Unit {0}
IsFieldOf kinds.U32 (u32 n) = Unit {0}
IsFieldOf kinds.U48 (u48 n) = n < 2 ^ 48
IsFieldOf kinds.U64 (u64 n) = Unit {0}
IsFieldOf kinds.LongTime (u48 n) = n < 2 ^ 48
IsFieldOf kinds.Locator (u64 n) = Unit {0}
IsFieldOf kinds.NodeNumber (u64 n) = Unit {0}
IsFieldOf kinds.ChaosAddress (u16 n) = Unit {0}
IsFieldOf kinds.Ipv4 (ipv4 own) = Unit {0}
IsFieldOf kinds.Ipv6 (ipv6 segments) = Unit {0}
IsFieldOf kinds.TypeCode (type_code code) = type_of_code (code_of code) ≡ code
IsFieldOf kinds.Time (time n) = Unit {0}
IsFieldOf (kinds.Counted shown) (counted own) = length own ≤ 255
IsFieldOf (kinds.LongCounted shown) (long_counted own) = length own ≤ max_data
IsFieldOf (kinds.Shaped shape) (shaped own) = own.shape ≡ shape
IsFieldOf (kinds.Octets shown) (octets own) = Unit {0}
IsFieldOf (kinds.List lists.Texts) (texts own) = (own.kind ≡ lists.Texts) × (1 ≤ length own.octets)
IsFieldOf (kinds.List lists.Types) (types own) = own.kind ≡ lists.Types
IsFieldOf (kinds.List lists.Params) (params own) = own.kind ≡ lists.Params
IsFieldOf (kinds.List lists.Prefixes) (prefixes own) = own.kind ≡ lists.Prefixes
IsFieldOf (kinds.List lists.Names) (names own) = own.kind ≡ lists.Names
IsFieldOf kind value = ⊥

-- There are as many values as kinds, each of its kind.
abbrev pub AreFieldsOf : List Kind → List FieldValue → Type 0
AreFieldsOf [] [] = Unit {0}
AreFieldsOf [] (value ∷ values) = ⊥
AreFieldsOf (kind ∷ kinds) [] = ⊥
AreFieldsOf (kind ∷ kinds) (value ∷ values) = IsFieldOf kind value × AreFieldsOf kinds values

-- Octets that the first of the data stand for, as far as the table of fields looks at them: none if there are none, those of a
-- shape, and one for others.
abbrev pub front : FieldValue → List ℕ
front (octets own) = own
front (texts own) = own.octets
front (types own) = own.octets
front (params own) = own.octets
front (prefixes own) = own.octets
front (names own) = own.octets
front (shaped own) = own.octets
front value = 1 ∷ []

abbrev pub front_of : List FieldValue → List ℕ
front_of [] = []
front_of (value ∷ values) = front value

-- the kinds of the fields that data of a class and a type have, if they begin with the first of these values
abbrev pub given_kinds : DNSClass → RecordType → List FieldValue → List Kind
given_kinds class record_type values = kinds_of class record_type (front_of values)

-- Why values are no fields of these kinds, by the first that is wrong, if they are numbered from here.
abbrev pub FailsGivenFields : ℕ → List Kind → List FieldValue → FromFieldsError → Type 0
FailsGivenFields number [] [] error = ⊥
FailsGivenFields number [] (value ∷ values) error = error ≡ TooMany number
FailsGivenFields number (kind ∷ kinds) [] error = error ≡ Missing number kind
FailsGivenFields number (kind ∷ kinds) (value ∷ values) error =
    ((¬ (IsFieldOf kind value)) × (error ≡ Mismatch number kind)) ⊎ (IsFieldOf kind value × FailsGivenFields (number + 1) kinds values error)

-- What follows from the tables of types and classes (RFC 6895, section 3). Each is the clause of a public function, and so proved.
use Rattle.std.specs.Prelude.{◌≡◌, ◌≢◌, ◌↔◌, ℕ, max, true, false}
use Rattle.dnw_base.specs.declared.record_type.RecordType.{RecordType}
use Rattle.dnw_base.specs.declared.record_type.RecordType.TheVariants as rr
use Rattle.dnw_base.specs.declared.dns_class.DNSClass.{DNSClass}
use Rattle.dnw_base.specs.declared.dns_class.DNSClass.TheVariants as class
use Rattle.dnw_base.specs.RecordTypes.{is_unknown, type_code, type_of_code}
use Rattle.dnw_base.specs.DnsClasses.{class_code, class_of_code, class_rank}
use Rattle.dnw_base.specs.Limits.{min_payload}

-- Each code round-trips through its type.
abbrev pub TypeCodesComeBack : Type 0
TypeCodesComeBack = (code : ℕ) → type_code (type_of_code code) ≡ code

-- Each type with a name round-trips through its code.
abbrev pub NamedTypesComeBack : Type 0
NamedTypesComeBack = (record_type : RecordType) → is_unknown record_type ≡ false → type_of_code (type_code record_type) ≡ record_type

-- `Unknown` round-trips through its code exactly if no type with a name has that code.
abbrev pub UnknownTypesComeBack : Type 0
UnknownTypesComeBack =
    (code : ℕ) → (type_of_code code ≡ rr.Unknown code) ↔ ((record_type : RecordType) → type_code record_type ≡ code → is_unknown record_type ≡ true)

-- Each code round-trips through its class.
abbrev pub ClassCodesComeBack : Type 0
ClassCodesComeBack = (code : ℕ) → class_code (class_of_code code) ≡ code

-- Each class with a name round-trips through its code.
abbrev pub NamedClassesComeBack : Type 0
NamedClassesComeBack = (kind : DNSClass) → class_rank kind ≡ 0 → class_of_code (class_code kind) ≡ kind

-- `Unknown` round-trips through its code exactly if no class with a name has that code.
abbrev pub UnknownClassesComeBack : Type 0
UnknownClassesComeBack =
    (code : ℕ) → (class_of_code code ≡ class.Unknown code) ↔ ((kind : DNSClass) → class_code kind ≡ code → class_rank kind ≢ 0)

-- The class of an OPT record never does: its code gives `Unknown` of the size, which is at least 512 (RFC 6891, section 6.2.3).
abbrev pub SizesStayUnknown : Type 0
SizesStayUnknown = (size : ℕ) → class_of_code (class_code (class.OPT size)) ≡ class.Unknown (max size min_payload)

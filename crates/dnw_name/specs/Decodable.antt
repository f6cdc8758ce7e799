-- Which octets of a message are a value of a type: numbers with the high octet first (RFC 1035, section 2.3.2), record
-- types and classes by their codes, names by the reading relation.
use Rattle.std.specs.Prelude.{◌≡◌, ℕ, ℤ, true}
use Rattle.std.specs.Int.{w16, w32, from_be_bytes, cast_signed}
use Rattle.dnw_base.specs.Decoder.{Decoder, HasLeft, next_bytes, advanced}
use Rattle.dnw_base.specs.declared.error.DecodeError.{DecodeError}
use Rattle.dnw_base.specs.declared.error.DecodeError.TheVariants.{InsufficientBytes}
use Rattle.dnw_base.specs.declared.record_type.RecordType.{RecordType}
use Rattle.dnw_base.specs.declared.dns_class.DNSClass.{DNSClass}
use Rattle.dnw_base.specs.RecordTypes.{type_of_code}
use Rattle.dnw_base.specs.DnsClasses.{class_of_code}
use Rattle.dnw_base.specs.Names.{NameValue}
use Rattle.dnw_name_read.specs.Reading.{TakesName, StopsAt}

abbrev pub TakesU16 : Decoder → ℕ → Decoder → Type 0
TakesU16 before n after = HasLeft before 2 × (n ≡ from_be_bytes w16 (next_bytes before 2)) × (after ≡ advanced before 2)

abbrev pub TakesU32 : Decoder → ℕ → Decoder → Type 0
TakesU32 before n after = HasLeft before 4 × (n ≡ from_be_bytes w32 (next_bytes before 4)) × (after ≡ advanced before 4)

abbrev pub TakesI32 : Decoder → ℤ → Decoder → Type 0
TakesI32 before n after = HasLeft before 4 × (n ≡ cast_signed w32 (from_be_bytes w32 (next_bytes before 4))) × (after ≡ advanced before 4)

abbrev pub TakesType : Decoder → RecordType → Decoder → Type 0
TakesType before kind after =
    HasLeft before 2 × (kind ≡ type_of_code (from_be_bytes w16 (next_bytes before 2))) × (after ≡ advanced before 2)

abbrev pub TakesClass : Decoder → DNSClass → Decoder → Type 0
TakesClass before class after =
    HasLeft before 2 × (class ≡ class_of_code (from_be_bytes w16 (next_bytes before 2))) × (after ≡ advanced before 2)

-- the message ends before so many octets
abbrev pub LacksBytes : ℕ → Decoder → DecodeError → Type 0
LacksBytes n before e = (¬ (HasLeft before n)) × (e ≡ InsufficientBytes)

-- a fully qualified name, by some number of pointers
abbrev pub TakesNameValue : Decoder → NameValue → Decoder → Type 0
TakesNameValue before name after = (name.is_fqdn ≡ true) × (k : ℕ) × TakesName before after name.labels k

abbrev pub StopsSomehow : Decoder → DecodeError → Type 0
StopsSomehow before e = (k : ℕ) × (j : ℕ) × StopsAt before e k j

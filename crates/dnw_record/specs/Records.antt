-- Resource records in a message (RFC 1035, sections 3.2.1 and 4.1.3): the owner, then two octets of type, two of class,
-- four of the time to live, two of the length of the data, and the data.
use Rattle.std.specs.Prelude.{◌≡◌, ◌≢◌, ℕ, ◌+◌, ◌-◌, ◌≤◌, true, List, length, slice_range, ◌⊎◌}
use Rattle.std.specs.Int.{w16, w32, from_be_bytes}
use Rattle.dnw_base.specs.declared.error.DecodeError.{DecodeError}
use Rattle.dnw_base.specs.declared.error.DecodeError.TheVariants.{IncorrectRDataLengthRead, InsufficientBytes}
use Rattle.dnw_base.specs.declared.record_type.RecordType.{RecordType}
use Rattle.dnw_base.specs.declared.dns_class.DNSClass.{DNSClass}
use Rattle.dnw_base.specs.RecordTypes.{type_of_code}
use Rattle.dnw_base.specs.DnsClasses.{class_of_code}
use Rattle.dnw_base.specs.Decoder.{Decoder}
use Rattle.dnw_base.specs.Names.{NameValue}
use Rattle.dnw_name_read.specs.Reading.{NameAt, FaultAt}
use Rattle.dnw_name.specs.Decodable.{StopsSomehow}

-- A record of a message: the labels of its owner, its type, class and time to live, and where its data are, and how many
-- octets.
pub record RecordValue : Type 0 where
  pub message : List ℕ
  pub owner : List (List ℕ)
  pub record_type : RecordType
  pub class : DNSClass
  pub ttl : ℕ
  pub start : ℕ
  pub len : ℕ

-- the octets between the owner and the data
abbrev pub fixed_size : ℕ
fixed_size = 10

abbrev pub record_length : List ℕ → ℕ
record_length message = length message

-- the number of two octets, the high one first, that so many octets are before
abbrev pub number_at : List ℕ → ℕ → ℕ
number_at fields p = from_be_bytes w16 (slice_range fields p (p + 2))

-- the fields after an owner that ends at e
abbrev pub fixed_at : List ℕ → ℕ → List ℕ
fixed_at b e = slice_range b e (e + fixed_size)

abbrev pub type_field : List ℕ → RecordType
type_field fields = type_of_code (number_at fields 0)

abbrev pub class_field : List ℕ → DNSClass
class_field fields = class_of_code (number_at fields 2)

abbrev pub ttl_field : List ℕ → ℕ
ttl_field fields = from_be_bytes w32 (slice_range fields 4 8)

abbrev pub length_field : List ℕ → ℕ
length_field fields = number_at fields 8

-- the record whose owner ends at e
abbrev pub record_of : List ℕ → List (List ℕ) → ℕ → RecordValue
record_of b owner e = record {
  message = b;
  owner = owner;
  record_type = type_field (fixed_at b e);
  class = class_field (fixed_at b e);
  ttl = ttl_field (fixed_at b e);
  start = e + fixed_size;
  len = length_field (fixed_at b e);
}

-- After an owner that ends at e, the fields and the data are there.
abbrev pub HasRest : List ℕ → ℕ → Type 0
HasRest b e = e + fixed_size + length_field (fixed_at b e) ≤ length b

-- There is a record at p: its owner is read there, the other fields and the data are there, and it ends after the data.
-- What the data are is not looked into.
pub record RecordAt (b : List ℕ) (p : ℕ) (r : RecordValue) (e : ℕ) : Type 0 where
  pub labels : List (List ℕ)
  pub owner_end : ℕ
  pub pointers : ℕ
  pub owner_read : NameAt b p labels owner_end pointers
  pub rest : HasRest b owner_end
  pub is : r ≡ record_of b labels owner_end
  pub ends : e ≡ r.start + r.len

-- There is an owner at p, but the other fields or the data are not all there.
abbrev pub LacksRecord : List ℕ → ℕ → Type 0
LacksRecord b p = (labels : List (List ℕ)) × (e : ℕ) × (k : ℕ) × NameAt b p labels e k × (¬ (HasRest b e))

-- The decoder was at a record, and is after it now.
abbrev pub TakesRecord : Decoder → RecordValue → Decoder → Type 0
TakesRecord before r after = (e : ℕ) × RecordAt before.bytes before.index r e × (after ≡ record { bytes = before.bytes; index = e })

-- The decoder is at no record: reading its owner stops with this error, or octets are missing after the owner.
abbrev pub FailsRecord : Decoder → DecodeError → Type 0
FailsRecord before error = StopsSomehow before error ⊎ (LacksRecord before.bytes before.index × (error ≡ InsufficientBytes))

-- the octets of the data
abbrev pub data_octets : RecordValue → List ℕ
data_octets r = slice_range r.message r.start (r.start + r.len)

-- ---- data that are a name

-- The data are a name: it is read where they start, and its own octets end where they do.
abbrev pub HasDataName : RecordValue → NameValue → Type 0
HasDataName r name = (name.is_fqdn ≡ true) × (k : ℕ) × NameAt r.message r.start name.labels (r.start + r.len) k

-- Reading a name there stops with this error, or its own octets are not as many as the data.
abbrev pub FailsDataName : RecordValue → DecodeError → Type 0
FailsDataName r error =
    ((k : ℕ) × (j : ℕ) × FaultAt r.message r.start error k j)
    ⊎ ((labels : List (List ℕ)) × (e : ℕ) × (k : ℕ) × NameAt r.message r.start labels e k × (e ≢ r.start + r.len)
    × (error ≡ IncorrectRDataLengthRead (e - r.start) r.len))

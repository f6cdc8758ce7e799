-- The sums that DNSSEC makes, as texts: key tags (RFC 4034, appendix B), DS records (RFC 4034, section 5) and the labels of NSEC3
-- records (RFC 5155, section 3).
use Rattle.std.specs.Prelude.{◌≡◌, ◌⊎◌, ℕ, codes, decimal, List, ◌∷◌, ◌++◌, length, None, Ok, Err}
use Rattle.std.specs.Int.{w16, w32, to_be_bytes}
use Rattle.dns_names_wire.specs.Words.{Decoder, FailsRecord, FailsRecordEntry, HasKeyTag, IsDataText, IsDsDigest, IsNumberText, IsRecordEntry, IsSaltText, NameValue}
use Rattle.dns_names_wire.specs.Words.{RecordValue, TakesRecord, algorithm_of, class_code, data_octets, key_tag, max_u16, name_of_text, nsec3_hash, nsec3_label}
use Rattle.dns_names_wire.specs.Words.{origin_labels, record_line, type_code, wire}
use Rattle.dns_names_wire.specs.declared.data_text.RecordEntryError.{RecordEntryError}
use Rattle.dns_names_wire.specs.declared.dnssec.DnssecError.TheVariants.{NotDnskey}
use Rattle.dns_names_wire.specs.declared.error.DecodeError.{DecodeError}
use Rattle.dns_names_wire.specs.declared.name_text.NameTextError.{NameTextError}
use Rattle.dns_names_wire.specs.declared.record_type.RecordType.TheVariants as types
use Rattle.dnw_commands.specs.Refusals.{IsMemory, SaysWrong}
use Rattle.dnw_commands.specs.declared.base.refusal.Refusal.{Refusal}
use Rattle.dnw_commands.specs.declared.base.refusal.Refusal.TheVariants.{Decode, Entry, Name, Sum}

-- the octets, from the first one
abbrev pub from_first : List ℕ → Decoder
from_first octets = record { bytes = octets; index = 0 }

-- The octets are this record.
abbrev pub AreRecord : List ℕ → RecordValue → Type 0
AreRecord octets r = (after : Decoder) × TakesRecord (from_first octets) r after

-- The octets are a DNSKEY record that has a key tag.
abbrev pub IsKeyRecord : List ℕ → RecordValue → Type 0
IsKeyRecord octets key = AreRecord octets key × (key.record_type ≡ types.DNSKEY) × HasKeyTag (data_octets key)

-- They are none: they are no record, the record is of another type, or it has no key tag.
abbrev pub FailsKeyRecord : List ℕ → Refusal → Type 0
FailsKeyRecord octets (Decode error) = FailsRecord (from_first octets) error
FailsKeyRecord octets (Sum NotDnskey) =
    (r : RecordValue) × AreRecord octets r × ((r.record_type ≡ types.DNSKEY → ⊥) ⊎ (HasKeyTag (data_octets r) → ⊥))
FailsKeyRecord octets refusal = ⊥

-- A line is the entry of a DNSKEY record that has a key tag.
abbrev pub IsKeyEntry : List ℕ → RecordValue → Type 0
IsKeyEntry line key = (octets : List ℕ) × IsRecordEntry None line octets × IsKeyRecord octets key

-- It is none: it is no entry of a record, or that of another, or memory ran out.
abbrev pub FailsKeyEntry : List ℕ → Refusal → Type 0
FailsKeyEntry line refusal =
    ((error : RecordEntryError) × (refusal ≡ Entry error) × FailsRecordEntry None line error)
    ⊎ ((octets : List ℕ) × IsRecordEntry None line octets × FailsKeyRecord octets refusal)
    ⊎ IsMemory refusal

-- The text is the key tag of the DNSKEY record that a line is.
abbrev pub IsKeyTagText : List ℕ → List ℕ → Type 0
IsKeyTagText line text = (key : RecordValue) × IsKeyEntry line key × (text ≡ decimal (key_tag (data_octets key)))

-- the digest type of SHA-256 (RFC 8624, section 3.3)
abbrev pub sha256_type : ℕ
sha256_type = 2

-- the data of a DS record with this digest: the key tag, the algorithm, the digest type and the digest (RFC 4034, section 5.1)
abbrev pub ds_data : List ℕ → List ℕ → List ℕ
ds_data key digest = to_be_bytes w16 (key_tag key) ++ algorithm_of key ∷ sha256_type ∷ digest

-- a DS record with the class and the time to live of a DNSKEY record, by the wire form of its owner and its data
abbrev pub ds_wire : List ℕ → RecordValue → List ℕ → List ℕ
ds_wire owner key own =
    owner ++ to_be_bytes w16 (type_code types.DS) ++ to_be_bytes w16 (class_code key.class) ++ to_be_bytes w32 key.ttl ++ to_be_bytes w16 (length own) ++ own

-- the DS record of a DNSKEY record, with this digest
abbrev pub ds_octets : RecordValue → List ℕ → List ℕ
ds_octets key digest = ds_wire (wire key.owner) key (ds_data (data_octets key) digest)

-- The octets are the DS record of a DNSKEY record.
unfoldable pub IsDsRecord : RecordValue → List ℕ → Type 0
IsDsRecord key octets = (digest : List ℕ) × IsDsDigest key.owner (data_octets key) sha256_type digest × (octets ≡ ds_octets key digest)

-- The octets are the DS record of the DNSKEY record that a line is.
unfoldable pub AreDsOf : List ℕ → List ℕ → Type 0
AreDsOf line octets = (key : RecordValue) × IsKeyEntry line key × IsDsRecord key octets

-- The text is the line of that DS record.
abbrev pub IsDsText : List ℕ → List ℕ → Type 0
IsDsText line text =
    (octets : List ℕ) × (ds : RecordValue) × (own : List ℕ) × AreDsOf line octets × AreRecord octets ds × IsDataText ds own × (text ≡ record_line ds own)

-- There is none: the line is no DNSKEY record, or the octets of its DS record are no record.
abbrev pub FailsDs : List ℕ → Refusal → Type 0
FailsDs line refusal =
    FailsKeyEntry line refusal
    ⊎ ((octets : List ℕ) × (error : DecodeError) × AreDsOf line octets × FailsRecord (from_first octets) error × (refusal ≡ Decode error))

-- The text is the first label of the owner of the NSEC3 record of a name, by texts of the name, the iterations and the salt.
abbrev pub IsNsec3Text : List ℕ → List ℕ → List ℕ → List ℕ → Type 0
IsNsec3Text name iterations salt text =
    (value : NameValue) × (count : ℕ) × (octets : List ℕ) × (name_of_text (origin_labels None) name ≡ Ok value) × IsNumberText max_u16 iterations count
    × IsSaltText salt octets × (text ≡ nsec3_label (nsec3_hash value.labels count octets))

-- The text is no number of two octets.
abbrev pub LacksNumber : List ℕ → Type 0
LacksNumber text = (count : ℕ) → ¬ (IsNumberText max_u16 text count)

-- The text is no salt.
abbrev pub LacksSalt : List ℕ → Type 0
LacksSalt text = (octets : List ℕ) → ¬ (IsSaltText text octets)

-- There is none: one of the texts is wrong, or memory ran out.
abbrev pub FailsNsec3 : List ℕ → List ℕ → List ℕ → Refusal → Type 0
FailsNsec3 name iterations salt refusal =
    (LacksNumber iterations × SaysWrong (codes "a number of at most 65535") iterations refusal)
    ⊎ (LacksSalt salt × SaysWrong (codes "- or at most 255 octets in hexadecimal") salt refusal)
    ⊎ ((error : NameTextError) × (name_of_text (origin_labels None) name ≡ Err error) × (refusal ≡ Name error))
    ⊎ IsMemory refusal

-- Records of referrals (RFC 1034, section 4.2.1).
use Rattle.std.specs.Prelude.{◌≡◌, ℕ, List, true}
use Rattle.dns_names_wire.specs.Words.{DNSClass, HasDataName, RecordAt, RecordType, RecordValue, data_octets}

-- the data are this name, fully qualified
abbrev pub HasName : List (List ℕ) → RecordValue → Type 0
HasName labels found = HasDataName found (record { is_fqdn = true; labels = labels })

-- the data are these octets
abbrev pub HasOctets : List ℕ → RecordValue → Type 0
HasOctets octets found = data_octets found ≡ octets

-- From p to e the message has a record of this owner, type, class and time to live, with such data.
pub record HasRecord (message : List ℕ) (labels : List (List ℕ)) (of_type : RecordType) (of_class : DNSClass) (seconds : ℕ) (AreData : RecordValue → Type 0) (p e : ℕ) : Type 0 where
  pub found : RecordValue
  pub stands : RecordAt message p found e
  pub owner : found.owner ≡ labels
  pub record_type : found.record_type ≡ of_type
  pub class : found.class ≡ of_class
  pub ttl : found.ttl ≡ seconds
  pub rdata : AreData found

-- Records of messages that are written by scripts.
use Rattle.std.specs.Prelude.{◌≡◌, ℕ, List, false}
use Rattle.dns_names_wire.specs.Words.{Compressed, HasData, RecordAt, RecordValue, WireRecord, class_code, class_of_code, type_code, type_of_code}

-- From p to e the message has this record: with its owner, its type and class by their codes, its time to live and its data.
pub record IsReadAt (message : List ℕ) (r : WireRecord) (p e : ℕ) : Type 0 where
  pub found : RecordValue
  pub stands : RecordAt message p found e
  pub owner : found.owner ≡ r.owner.labels
  pub record_type : found.record_type ≡ type_of_code (type_code r.record_type)
  pub class : found.class ≡ class_of_code (class_code r.class)
  pub ttl : found.ttl ≡ r.ttl
  pub rdata : HasData found Compressed false r.rdata

-- What is written of records in a zone file (RFC 1035, section 5.1), and what it is read as.
use Rattle.std.specs.Prelude.{◌≡◌, ◌≤◌, ℕ, true, List, [], ◌∷◌, ◌++◌, length, Some}
use Rattle.dnw_base.specs.DnsClasses.{class_code}
use Rattle.dnw_base.specs.Limits.{max_data}
use Rattle.dnw_base.specs.RecordTypes.{type_code}
use Rattle.dnw_data.specs.Table.{fields_of}
use Rattle.dnw_record.specs.Records.{RecordValue}
use Rattle.dnw_zone_data.specs.DataTexts.{ArePlain, IsDataText}
use Rattle.dnw_zone_file.specs.declared.entry.ZoneRecord.{ZoneRecord}
use Rattle.dnw_zone_file.specs.declared.head.Head.{Head}
use Rattle.dnw_zone_file.specs.Heads.{is_zone_class, is_zone_type, max_zone_ttl}
use Rattle.dnw_zone_record.specs.RecordLines.{record_line}

-- ---- writing

-- a record's line, and a line feed
abbrev pub written_line : RecordValue → List ℕ → List ℕ
written_line r text = record_line r text ++ 10 ∷ []

-- The record is appended as a line.
abbrev pub AppendsLine : RecordValue → List ℕ → List ℕ → Type 0
AppendsLine r old new = (text : List ℕ) × IsDataText r text × (new ≡ old ++ written_line r text)

-- ---- reading it

-- what a line has between the owner and the data
abbrev pub written_head : RecordValue → Head
written_head r = record { ttl = Some r.ttl; class = Some r.class; record_type = r.record_type }

-- The reader's record is this one, with these data.
abbrev pub IsSameRecord : RecordValue → List ℕ → ZoneRecord → Type 0
IsSameRecord r own found =
    (found.record_type ≡ r.record_type) × (found.class ≡ r.class) × (found.ttl ≡ r.ttl) × (found.wire.items ≡ own)

-- The class, the type and the time to live are those of a record that a zone may have.
abbrev pub IsOfZone : RecordValue → Type 0
IsOfZone r = (is_zone_class r.class ≡ true) × (is_zone_type r.record_type ≡ true) × (r.ttl ≤ max_zone_ttl)

-- A zone may have the record. The data are not more than data may have, and they are data of the record's class and type.
abbrev pub AreOfType : RecordValue → List ℕ → Type 0
AreOfType r own = (length own ≤ max_data) × ArePlain (fields_of (class_code r.class) (type_code r.record_type) own) own × IsOfZone r

-- Records of zone files by their types, and zone files of a record.
use Rattle.std.specs.Prelude.{◌==◌, ℕ, List, [], ◌∷◌}
use Rattle.std.specs.List.{filter}
use Rattle.dns_names_wire.specs.Words.{AreOfType, IsPlainData, IsSameRecord, IsZoneText, NameValue, OwnedRecord, RecordAt, RecordType, RecordValue, type_code}
use Rattle.dns_names_wire.specs.declared.zone.ZoneRecord.{ZoneRecord}

-- those of one type, in their order
abbrev pub of_type : RecordType → List OwnedRecord → List OwnedRecord
of_type kind records = filter (λ found. type_code found.body.record_type == type_code kind) records

-- There is a record at the start of the octets. If its data are those of its class and type, the text is a zone file of it.
abbrev pub IsFileOf : NameValue → List ℕ → List ℕ → Type 0
IsFileOf origin octets text =
    (r : RecordValue) × (end : ℕ) × RecordAt octets 0 r end × (own : List ℕ) × IsPlainData r own
    × (AreOfType r own → (found : ZoneRecord) → IsSameRecord r own found → IsZoneText origin text (record { owner = r.owner; body = found } ∷ []))

-- What follows from the definitions of what is written. Each is the clause of a public function, and so proved.
use Rattle.std.specs.Prelude.{◌≡◌, ◌≤◌, ⊤, Bool, true, ℕ, List, [], ◌∷◌, ◌++◌, length, Ok}
use Rattle.std.specs.List.{AllByRecursion}
use Rattle.dnw_base.specs.Names.{AreLabels, NameValue}
use Rattle.dnw_name_form.specs.LabelOrder.{AreOctets}
use Rattle.dnw_name_read.specs.ReadingLaws.{AreBytes}
use Rattle.dnw_record.specs.Records.{RecordAt, RecordValue}
use Rattle.dnw_zone_data.specs.DataTexts.{IsDataText, IsPlainData}
use Rattle.dnw_zone_file.specs.declared.context.Context.{Context}
use Rattle.dnw_zone_file.specs.declared.entry.Entry.{Entry}
use Rattle.dnw_zone_file.specs.declared.entry.Entry.TheVariants.{Record as RecordEntry}
use Rattle.dnw_zone_file.specs.declared.entry.ZoneRecord.{ZoneRecord}
use Rattle.dnw_zone_file.specs.declared.step.Found.TheVariants.{Entry as IsOne}
use Rattle.dnw_zone_file.specs.declared.entry.Entry.TheVariants.{Nothing}
use Rattle.dnw_zone_file.specs.declared.zone_text.OwnedRecord.{OwnedRecord}
use Rattle.dnw_zone_file.specs.Contexts.{IsFirst, with_origin, with_record, with_ttl}
use Rattle.dnw_zone_file.specs.Heads.{max_zone_ttl}
use Rattle.dnw_zone_file.specs.ShortLines.{AppendsOrigin, AppendsShort, AppendsTtl, IsShortText, origin_line, short_head, short_ttl, ttl_line}
use Rattle.dnw_zone_file.specs.Steps.{IsStep}
use Rattle.dnw_zone_file.specs.ZoneTexts.{BeginsWithRecords, IsZoneText}
use Rattle.dnw_zone_values.specs.Octets.{IsOctets}
use Rattle.dnw_zone_file.specs.Written.{AreOfType, IsSameRecord, written_line, written_head}

-- What is written of a record that is read from a message begins an entry that is this record, whatever was before it and is after
-- it, if the record's data are those of its class and type.
abbrev pub LinesAreEntries : Type 0
LinesAreEntries = (before : Context) (b : List ℕ) (p e : ℕ) (r : RecordValue) (text rest : List ℕ) (more : Bool) → AreBytes b → RecordAt b p r e → IsDataText r text
    → (own : List ℕ) × IsPlainData r own
    × (AreOfType r own → (found : ZoneRecord) → IsSameRecord r own found
    → IsStep before (written_line r text ++ rest) more (record { used = length (written_line r text); found = Ok (IsOne (RecordEntry found)) }) (with_record before r.owner (written_head r)))

-- the data of a record are octets
abbrev pub HasDataOctets : Entry → Type 0
HasDataOctets (RecordEntry found) = IsOctets found.wire.items
HasDataOctets entry = ⊤

-- The entry is this record, with these data.
abbrev pub IsWrittenRecord : RecordValue → List ℕ → Entry → Type 0
IsWrittenRecord r own (RecordEntry found) = IsSameRecord r own found
IsWrittenRecord r own entry = ⊥

-- It is read as no other: an entry that the reader finds there is this record.
abbrev pub LinesAreReadBack : Type 0
LinesAreReadBack = (before after : Context) (b : List ℕ) (p e : ℕ) (r : RecordValue) (text rest : List ℕ) (more : Bool) (entry : Entry) (used : ℕ) → AreBytes b → RecordAt b p r e
    → IsDataText r text → IsStep before (written_line r text ++ rest) more (record { used = used; found = Ok (IsOne entry) }) after → HasDataOctets entry
    → (own : List ℕ) × IsPlainData r own
    × (AreOfType r own → IsWrittenRecord r own entry × (used ≡ length (written_line r text)) × (after ≡ with_record before r.owner (written_head r)))

-- ---- by what entries before say

-- What is written of a record after other entries begins an entry that is this record, after the same entries.
abbrev pub ShortLinesAreEntries : Type 0
ShortLinesAreEntries = (before : Context) (b : List ℕ) (p e : ℕ) (r : RecordValue) (line rest : List ℕ) (more : Bool) → AreBytes b → RecordAt b p r e
    → IsShortText before r.owner (short_ttl before.default_ttl r.ttl) r line
    → (own : List ℕ) × IsPlainData r own
    × (AreOfType r own → (found : ZoneRecord) → IsSameRecord r own found
    → IsStep before (line ++ rest) more (record { used = length line; found = Ok (IsOne (RecordEntry found)) }) (with_record before r.owner (short_head before r)))

-- It is read as no other.
abbrev pub ShortLinesAreReadBack : Type 0
ShortLinesAreReadBack = (before after : Context) (b : List ℕ) (p e : ℕ) (r : RecordValue) (line rest : List ℕ) (more : Bool) (entry : Entry) (used : ℕ) → AreBytes b → RecordAt b p r e
    → IsShortText before r.owner (short_ttl before.default_ttl r.ttl) r line
    → IsStep before (line ++ rest) more (record { used = used; found = Ok (IsOne entry) }) after → HasDataOctets entry
    → (own : List ℕ) × IsPlainData r own
    × (AreOfType r own → IsWrittenRecord r own entry × (used ≡ length line) × (after ≡ with_record before r.owner (short_head before r)))

-- `$ORIGIN` and `$TTL` are entries of their own.
abbrev pub OriginsAreEntries : Type 0
OriginsAreEntries = (before : Context) (labels : List (List ℕ)) (rest : List ℕ) (more : Bool) → AreLabels labels → AllByRecursion AreOctets labels
    → IsStep before (origin_line labels ++ rest) more (record { used = length (origin_line labels); found = Ok (IsOne Nothing) }) (with_origin before (record { is_fqdn = true; labels = labels }))

abbrev pub TtlsAreEntries : Type 0
TtlsAreEntries = (before : Context) (ttl : ℕ) (rest : List ℕ) (more : Bool) → ttl ≤ max_zone_ttl
    → IsStep before (ttl_line ttl ++ rest) more (record { used = length (ttl_line ttl); found = Ok (IsOne Nothing) }) (with_ttl before ttl)

-- ---- whole texts

-- The text is these records after the entries that made the first context, whatever is after the text.
abbrev pub IsWrittenZone : Context → List ℕ → List OwnedRecord → Context → Type 0
IsWrittenZone first text records after = (n : ℕ) × ((rest : List ℕ) → BeginsWithRecords n first (text ++ rest) records rest after)

-- A text to which a record is appended is the records of the text and that record.
abbrev pub ZoneRecordsAreAdded : Type 0
ZoneRecordsAreAdded = (first before after : Context) (old new b : List ℕ) (p e : ℕ) (r : RecordValue) (records : List OwnedRecord) → IsWrittenZone first old records before
    → AreBytes b → RecordAt b p r e → AppendsShort before r old new after
    → (own : List ℕ) × IsPlainData r own
    × (AreOfType r own → (found : ZoneRecord) → IsSameRecord r own found → IsWrittenZone first new (records ++ record { owner = r.owner; body = found } ∷ []) after)

-- `$ORIGIN` and `$TTL` add none.
abbrev pub OriginsAreAdded : Type 0
OriginsAreAdded = (first before after : Context) (old new : List ℕ) (origin : NameValue) (records : List OwnedRecord) → IsWrittenZone first old records before
    → AreLabels origin.labels → AllByRecursion AreOctets origin.labels → AppendsOrigin before origin old new after → IsWrittenZone first new records after

abbrev pub TtlsAreAdded : Type 0
TtlsAreAdded = (first before after : Context) (old new : List ℕ) (ttl : ℕ) (records : List OwnedRecord) → IsWrittenZone first old records before
    → ttl ≤ max_zone_ttl → AppendsTtl before ttl old new after → IsWrittenZone first new records after

-- No text is no records. A text that is written from the beginning is a zone file of its records.
abbrev pub NothingIsWritten : Type 0
NothingIsWritten = (first : Context) → IsWrittenZone first [] [] first

abbrev pub WrittenTextsAreRecords : Type 0
WrittenTextsAreRecords = (origin : NameValue) (first after : Context) (text : List ℕ) (records : List OwnedRecord) → IsFirst origin first
    → IsWrittenZone first text records after → IsZoneText origin text records

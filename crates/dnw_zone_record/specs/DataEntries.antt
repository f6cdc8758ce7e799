-- Which data a text is, with comments and parentheses (RFC 1035, section 5.1): those that the line of its entry is. White space may be
-- after the entry, and nothing else.
use Rattle.std.specs.Prelude.{◌≡◌, ◌⊎◌, ℕ, true, false, List, drop, length, Option}
use Rattle.dnw_base.specs.Names.{NameValue}
use Rattle.dnw_base.specs.declared.dns_class.DNSClass.{DNSClass}
use Rattle.dnw_base.specs.declared.record_type.RecordType.{RecordType}
use Rattle.dnw_zone_record.specs.Lines.{line_of}
use Rattle.dnw_zone_record.specs.RecordEntries.{EndsEntry, is_blank_rest}
use Rattle.dnw_zone_record.specs.RecordLines.{FailsDataOf, IsDataOf}
use Rattle.dnw_zone_record.specs.declared.entry.RecordEntryError.{RecordEntryError}
use Rattle.dnw_zone_record.specs.declared.entry.RecordEntryError.TheVariants.{Words, MoreEntries, Line, Memory}
use Rattle.dnw_zone_record.specs.declared.record_line.RecordLineError.{RecordLineError}
use Rattle.dnw_zone_record.specs.declared.scan.Ending.{Ending}
use Rattle.dnw_zone_record.specs.declared.scan.Ending.TheVariants.{Line as AtLine, Text as AtText, Cut, Wrong}

-- The text is these octets, as data of a class and a type.
abbrev pub IsDataEntry : Option NameValue → DNSClass → RecordType → List ℕ → List ℕ → Type 0
IsDataEntry origin class kind text octets =
    (line : List ℕ) × (ending : Ending) × (line_of text ≡ (line, ending)) × EndsEntry text line ending × IsDataOf origin class kind line octets

-- The line is no data of the class and type.
abbrev pub FailsDataLine : Option NameValue → DNSClass → RecordType → List ℕ → RecordEntryError → Type 0
FailsDataLine origin class kind line error = (why : RecordLineError) × FailsDataOf origin class kind (length line) line why × (error ≡ Line why)

-- why a text is none, of which this is the line, by how it ends
abbrev pub FailsEndedData : Option NameValue → DNSClass → RecordType → List ℕ → List ℕ → Ending → RecordEntryError → Type 0
FailsEndedData origin class kind text line (Cut rule) error = error ≡ Words (length line) rule
FailsEndedData origin class kind text line (Wrong rule) error = error ≡ Words (length line) rule
FailsEndedData origin class kind text line AtText error = FailsDataLine origin class kind line error
FailsEndedData origin class kind text line AtLine error =
    ((is_blank_rest (drop (length line) text) ≡ false) × (error ≡ MoreEntries (length line)))
    ⊎ ((is_blank_rest (drop (length line) text) ≡ true) × FailsDataLine origin class kind line error)

abbrev pub FailsDataEntry : Option NameValue → DNSClass → RecordType → List ℕ → RecordEntryError → Type 0
FailsDataEntry origin class kind text error =
    (error ≡ Memory)
    ⊎ ((line : List ℕ) × (ending : Ending) × (line_of text ≡ (line, ending)) × FailsEndedData origin class kind text line ending error)

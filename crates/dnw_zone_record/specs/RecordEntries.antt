-- Which record a text is, with comments and parentheses (RFC 1035, section 5.1): the one that the line of its entry is. White space
-- may be after the entry, and nothing else.
use Rattle.std.specs.Prelude.{◌≡◌, ◌⊎◌, ◌==◌, if◌then◌else◌, ℕ, ⊤, Bool, true, false, List, drop, length, Option}
use Rattle.dnw_base.specs.Names.{NameValue}
use Rattle.dnw_zone_record.specs.Lines.{fault_offset, is_indented, line_of}
use Rattle.dnw_zone_record.specs.declared.scan.Ending.{Ending}
use Rattle.dnw_zone_record.specs.declared.scan.Ending.TheVariants.{Line as AtLine, Text as AtText, Cut, Wrong}
use Rattle.dnw_zone_data.specs.Words.{after_spaces, after_word, word}
use Rattle.dnw_zone_record.specs.RecordLines.{FailsRecordOf, IsRecordOf}
use Rattle.dnw_zone_record.specs.declared.record_line.RecordLineError.{RecordLineError}
use Rattle.dnw_zone_record.specs.declared.entry.RecordEntryError.{RecordEntryError}
use Rattle.dnw_zone_record.specs.declared.entry.RecordEntryError.TheVariants.{Words, MoreEntries, Line, Memory}

-- white space alone
abbrev pub is_blank_rest : List ℕ → Bool
is_blank_rest text = length (after_spaces text) == 0

-- The entry with this line is the only one of a text.
abbrev pub EndsEntry : List ℕ → List ℕ → Ending → Type 0
EndsEntry text line AtText = ⊤
EndsEntry text line AtLine = is_blank_rest (drop (length line) text) ≡ true
EndsEntry text line other = ⊥

-- what the owner begins, of a text with this line: parentheses before it are none of it, but white space leaves it out
abbrev pub owner_on : List ℕ → List ℕ → List ℕ
owner_on text line = if is_indented text then line else after_spaces line

-- The line of a text is the record of these octets.
unfoldable pub IsLineRecord : Option NameValue → List ℕ → List ℕ → List ℕ → Type 0
IsLineRecord origin text line octets = IsRecordOf origin (word (owner_on text line)) (after_word (owner_on text line)) octets

-- why it is none
unfoldable pub FailsLineRecord : Option NameValue → List ℕ → List ℕ → RecordLineError → Type 0
FailsLineRecord origin text line error = FailsRecordOf origin (length line) (word (owner_on text line)) (after_word (owner_on text line)) error

-- The text is the record of these octets.
abbrev pub IsRecordEntry : Option NameValue → List ℕ → List ℕ → Type 0
IsRecordEntry origin text octets =
    (line : List ℕ) × (ending : Ending) × (line_of text ≡ (line, ending)) × EndsEntry text line ending × IsLineRecord origin text line octets

-- The line is no record.
abbrev pub FailsLine : Option NameValue → List ℕ → List ℕ → RecordEntryError → Type 0
FailsLine origin text line error = (why : RecordLineError) × FailsLineRecord origin text line why × (error ≡ Line why)

-- why a text is none, of which this is the line, by how it ends
abbrev pub FailsEnded : Option NameValue → List ℕ → List ℕ → Ending → RecordEntryError → Type 0
FailsEnded origin text line (Cut rule) error = error ≡ Words (fault_offset text (length line) rule) rule
FailsEnded origin text line (Wrong rule) error = error ≡ Words (fault_offset text (length line) rule) rule
FailsEnded origin text line AtText error = FailsLine origin text line error
FailsEnded origin text line AtLine error =
    ((is_blank_rest (drop (length line) text) ≡ false) × (error ≡ MoreEntries (length line)))
    ⊎ ((is_blank_rest (drop (length line) text) ≡ true) × FailsLine origin text line error)

abbrev pub FailsRecordEntry : Option NameValue → List ℕ → RecordEntryError → Type 0
FailsRecordEntry origin text error =
    (error ≡ Memory)
    ⊎ ((line : List ℕ) × (ending : Ending) × (line_of text ≡ (line, ending)) × FailsEnded origin text line ending error)

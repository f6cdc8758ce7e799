-- A line whose first word and rest are a record is one.
use Rattle.std.proofs.Common.{◌≡◌, ℕ, List, Option, length, subst}
use Rattle.dnw_base.specs.Names.{NameValue}
use Rattle.dnw_zone_data.specs.Words.{after_word, word}
use Rattle.dnw_zone_record.specs.RecordEntries.{FailsLineRecord, IsLineRecord, owner_on}
use Rattle.dnw_zone_record.specs.RecordLines.{FailsRecordOf, IsRecordOf}
use Rattle.dnw_zone_record.specs.declared.record_line.RecordLineError.{RecordLineError}

pub line_is : (origin : Option NameValue) (text line first rest octets : List ℕ) → first ≡ word (owner_on text line) → rest ≡ after_word (owner_on text line)
    → IsRecordOf origin first rest octets → IsLineRecord origin text line octets
unfolding IsLineRecord
line_is origin text line first rest octets begins goes is =
    subst (λ (x : List ℕ). IsRecordOf origin x (after_word (owner_on text line)) octets) begins (subst (λ (x : List ℕ). IsRecordOf origin first x octets) goes is)

pub line_fails : (origin : Option NameValue) (text line first rest : List ℕ) (error : RecordLineError) → first ≡ word (owner_on text line) → rest ≡ after_word (owner_on text line)
    → FailsRecordOf origin (length line) first rest error → FailsLineRecord origin text line error
unfolding FailsLineRecord
line_fails origin text line first rest error begins goes fails =
    subst (λ (x : List ℕ). FailsRecordOf origin (length line) x (after_word (owner_on text line)) error) begins
    (subst (λ (x : List ℕ). FailsRecordOf origin (length line) first x error) goes fails)

-- What follows from the definitions of records as lines. Each is the clause of a public function, and so proved.
use Rattle.std.specs.Prelude.{◌≡◌, ◌<◌, ◌⊎◌, ℕ, List, length, Option}
use Rattle.dnw_base.specs.Names.{NameValue}
use Rattle.dnw_zone_data.specs.DataTexts.{IsDataText, IsPlainData}
use Rattle.dnw_zone_data.specs.Generic.{IsGeneric}
use Rattle.dnw_base.specs.Limits.{max_data}
use Rattle.dnw_zone_values.specs.Octets.{IsOctets}
use Rattle.dnw_name_read.specs.ReadingLaws.{AreBytes}
use Rattle.dnw_record.specs.Records.{RecordAt, RecordValue}
use Rattle.dnw_zone_record.specs.RecordLines.{line_octets, record_line, IsRecordLine}
use Rattle.dnw_zone_record.specs.declared.record_line.LineHead.{LineHead}

-- what a line of a record has between the owner and the data
abbrev pub line_head : RecordValue → LineHead
line_head r = record { record_type = r.record_type; class = r.class; ttl = r.ttl }

-- A record of a message that is printed as a line is parsed as the octets of the same record, with names that are not compressed;
-- or its data are printed as those octets in the form that any data have.
abbrev pub LinesComeBack : Type 0
LinesComeBack = (origin : Option NameValue) (b : List ℕ) (p e : ℕ) (r : RecordValue) (text : List ℕ) → AreBytes b → RecordAt b p r e → IsDataText r text
    → (own : List ℕ) × IsPlainData r own
    × ((max_data < length own) ⊎ IsGeneric text own ⊎ IsRecordLine origin (record_line r text) (line_octets r.owner (line_head r) own))

-- No line is two records.
abbrev pub LinesAreUnambiguous : Type 0
LinesAreUnambiguous = (origin : Option NameValue) (line octets other : List ℕ) → IsOctets octets → IsOctets other
    → IsRecordLine origin line octets → IsRecordLine origin line other → octets ≡ other

-- What is parsed of a record's line that was printed are the octets of that record, under the same condition.
abbrev pub PrintedLinesAreSame : Type 0
PrintedLinesAreSame = (origin : Option NameValue) (b : List ℕ) (p e : ℕ) (r : RecordValue) (text octets : List ℕ) → AreBytes b → RecordAt b p r e
    → IsDataText r text → IsOctets octets → IsRecordLine origin (record_line r text) octets
    → (own : List ℕ) × IsPlainData r own × ((max_data < length own) ⊎ (octets ≡ line_octets r.owner (line_head r) own))

-- The sections of a message in the layout of `dig` of BIND 9.18: under a title each question and each record, in a line, and the options
-- of EDNS (RFC 6891). A record's line is that of a master file (RFC 1035, section 5.1).
use Rattle.std.specs.Prelude.{◌≡◌, ◌⊎◌, ◌<◌, ◌-◌, ◌+◌, ◌==◌, ◌&&◌, ℕ, Bool, true, false, List, [], ◌∷◌, ◌++◌, length, drop, codes, decimal, if◌then◌else◌, Some, None}
use Rattle.dnw_base.specs.DnsClasses.{class_text}
use Rattle.dnw_base.specs.RecordTypes.{type_text}
use Rattle.dnw_name_text.specs.NameTexts.{full_name_text}
use Rattle.dnw_record.specs.Records.{RecordValue}
use Rattle.dnw_message_read.specs.Edns.{OptionValue, is_opt}
use Rattle.dnw_message_read.specs.Messages.{MessageValue, QueryValue}
use Rattle.dnw_message_read.specs.Reading.{ReadsAnyOption}
use Rattle.dnw_message_read.specs.Texts.{option_text}
use Rattle.dnw_message_read.specs.Values.{OptionFields}
use Rattle.dnw_message_read.specs.declared.header.HeaderCounts.{HeaderCounts}
use Rattle.dnw_message_read.specs.declared.error.Section.{Section}
use Rattle.dnw_message_read.specs.declared.error.Section.TheVariants as section
use Rattle.dnw_message_read.specs.declared.op_code.OpCode.{OpCode}
use Rattle.dnw_message_read.specs.declared.op_code.OpCode.TheVariants as op
use Rattle.dnw_zone_data.specs.DataTexts.{IsDataText}
use Rattle.dnw_zone_record.specs.RecordLines.{record_line}
use Rattle.dnw_message_text.specs.Parts.{AreParts}

-- ---- EDNS

-- an option, in a line
abbrev pub IsOptionPart : OptionValue → List ℕ → Type 0
IsOptionPart o text = (fields : OptionFields) × ReadsAnyOption o.code o.octets fields × (text ≡ 10 ∷ codes "; " ++ option_text fields)

-- the rule of EDNS that a message breaks
abbrev pub rule_text : List ℕ → List ℕ
rule_text rule = 10 ∷ 10 ∷ codes ";; WARNING: EDNS breaks a rule: " ++ rule

-- ---- sections

-- the titles of the sections, and those of an UPDATE (RFC 2136, section 2)
abbrev pub usual_title : Section → List ℕ
usual_title section.Header = codes "HEADER"
usual_title section.Queries = codes "QUESTION"
usual_title section.Answers = codes "ANSWER"
usual_title section.Authorities = codes "AUTHORITY"
usual_title section.Additionals = codes "ADDITIONAL"

abbrev pub update_title : Section → List ℕ
update_title section.Header = codes "HEADER"
update_title section.Queries = codes "ZONE"
update_title section.Answers = codes "PREREQUISITE"
update_title section.Authorities = codes "UPDATE"
update_title section.Additionals = codes "ADDITIONAL"

abbrev pub section_title : OpCode → Section → List ℕ
section_title op.Update kind = update_title kind
section_title other kind = usual_title kind

-- an empty line, but not between the fields of EDNS and what is next
abbrev pub gap_after : Bool → Bool → List ℕ
gap_after shows_edns is_next = if shows_edns && is_next then [] else 10 ∷ []

-- no question and no answer is there, and no authority either
abbrev pub begins_with_authorities : HeaderCounts → Bool
begins_with_authorities counts = (counts.queries == 0) && (counts.answers == 0)

abbrev pub begins_with_additionals : HeaderCounts → Bool
begins_with_additionals counts = begins_with_authorities counts && (counts.authorities == 0)

abbrev pub title_text : List ℕ → List ℕ → List ℕ
title_text gap title = gap ++ (10 ∷ codes ";; " ++ (title ++ codes " SECTION:"))

-- A section with so many items that are shown: nothing if there is none, or else its title after a gap, and their lines.
abbrev pub IsSectionText : List ℕ → List ℕ → ℕ → (List ℕ → Type 0) → List ℕ → Type 0
IsSectionText gap title count Are text =
    ((count ≡ 0) × (text ≡ [])) ⊎ ((0 < count) × (lines : List ℕ) × Are lines × (text ≡ title_text gap title ++ lines))

-- a question, in a line
abbrev pub question_part : QueryValue → List ℕ
question_part q = 10 ∷ 59 ∷ full_name_text q.name ++ (9 ∷ class_text q.query_class ++ (9 ∷ type_text q.query_type))

abbrev pub IsQuestionPart : QueryValue → List ℕ → Type 0
IsQuestionPart q text = text ≡ question_part q

-- a record, in a line
abbrev pub IsRecordLinePart : RecordValue → List ℕ → Type 0
IsRecordLinePart r text = (own : List ℕ) × IsDataText r own × (text ≡ 10 ∷ record_line r own)

-- A record in a line; an OPT record is none if the fields of EDNS are shown in its place.
abbrev pub IsRecordPart : Bool → RecordValue → List ℕ → Type 0
IsRecordPart hides_opt r text =
    ((hides_opt && is_opt r.record_type ≡ true) × (text ≡ [])) ⊎ ((hides_opt && is_opt r.record_type ≡ false) × IsRecordLinePart r text)

-- how many additional records are shown, in lines
abbrev pub shown_additionals : MessageValue → Bool → ℕ
shown_additionals m shows_edns = m.header.counts.additionals - (if shows_edns then 1 else 0)

abbrev pub title_in : MessageValue → Section → List ℕ
title_in m kind = section_title m.header.metadata.op_code kind

abbrev pub IsQuestionsText : MessageValue → Bool → List ℕ → Type 0
IsQuestionsText m shows_edns text =
    IsSectionText (gap_after shows_edns true) (title_in m section.Queries) m.header.counts.queries (AreParts IsQuestionPart m.queries) text

abbrev pub IsAnswersText : MessageValue → Bool → List ℕ → Type 0
IsAnswersText m shows_edns text =
    IsSectionText (gap_after shows_edns (m.header.counts.queries == 0)) (title_in m section.Answers) m.header.counts.answers
    (AreParts (IsRecordPart false) m.answers) text

abbrev pub IsAuthoritiesText : MessageValue → Bool → List ℕ → Type 0
IsAuthoritiesText m shows_edns text =
    IsSectionText (gap_after shows_edns (begins_with_authorities m.header.counts)) (title_in m section.Authorities) m.header.counts.authorities
    (AreParts (IsRecordPart false) m.authorities) text

abbrev pub IsAdditionalsText : MessageValue → Bool → List ℕ → Type 0
IsAdditionalsText m shows_edns text =
    IsSectionText (gap_after shows_edns (begins_with_additionals m.header.counts)) (title_in m section.Additionals) (shown_additionals m shows_edns)
    (AreParts (IsRecordPart shows_edns) m.additionals) text

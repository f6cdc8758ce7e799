-- What the functions for C put of records and data that are texts, and why they put nothing (RFC 1035, section 5.1).
use Rattle.std.specs.Prelude.{◌≡◌, ◌≢◌, ◌⊎◌, ℕ, IsTrue, List, [], length, Option, Some, None, Result}
use Rattle.dnw_base.specs.Names.{NameValue}
use Rattle.dnw_base.specs.DnsClasses.{class_of_code}
use Rattle.dnw_base.specs.RecordTypes.{type_of_code}
use Rattle.dnw_base.specs.declared.dns_class.DNSClass.{DNSClass}
use Rattle.dnw_base.specs.declared.record_type.RecordType.{RecordType}
use Rattle.dnw_zone_record.specs.RecordEntries.{FailsRecordEntry, IsRecordEntry}
use Rattle.dnw_zone_record.specs.DataEntries.{FailsDataEntry, IsDataEntry}
use Rattle.dnw_zone_record.specs.declared.record_line.RecordLineError.{RecordLineError}
use Rattle.dnw_zone_record.specs.declared.entry.RecordEntryError.{RecordEntryError}
use Rattle.dnw_zone_record.specs.declared.entry.RecordEntryError.TheVariants as entries
use Rattle.dnw_zone_record.specs.declared.word_error.WordRule.{WordRule}
use Rattle.dnw_zone_record.specs.declared.word_error.WordRule.TheVariants.{NestedParenthesis, UnopenedParenthesis, UnclosedParenthesis, UnclosedQuote, UnfinishedEscape}
use Rattle.dnw_zone_record.specs.declared.record_line.RecordLineError.TheVariants.{NoOwner, NoTimeToLive, NoType, Data, TooLong, Memory}
use Rattle.dnw_c_base.specs.Results.{Puts, Refuses}
use Rattle.dnw_c_base.specs.WireForms.{IsFormOf, IsNoForm}
use Rattle.dnw_c_base.specs.declared.failure.Failure.{Failure}
use Rattle.dnw_c_base.specs.declared.failure.Failure.TheVariants as why

-- ---- the origin

-- The octets are the wire form of a fully qualified name, whole; or there are none, and there is no origin.
abbrev pub IsOrigin : List ℕ → Option NameValue → Type 0
IsOrigin form None = form ≡ []
IsOrigin form (Some name) = IsTrue name.is_fqdn × IsFormOf form name.labels

-- There are octets, but they are no wire form.
abbrev pub IsNoOrigin : List ℕ → Failure → Type 0
IsNoOrigin form failure = (form ≢ []) × IsNoForm form failure

-- ---- failures

abbrev pub of_line : RecordLineError → Failure
of_line NoOwner = why.BadText
of_line (NoTimeToLive offset) = why.BadTime
of_line (NoType offset) = why.UnknownText
of_line (Data error) = why.BadData
of_line (TooLong offset) = why.BadData
of_line Memory = why.NoMemory

-- the rule that a text is against
abbrev pub failure_of_rule : WordRule → Failure
failure_of_rule NestedParenthesis = why.IllegalCharacter
failure_of_rule UnopenedParenthesis = why.IllegalCharacter
failure_of_rule UnclosedParenthesis = why.UnclosedList
failure_of_rule UnclosedQuote = why.UnclosedQuote
failure_of_rule UnfinishedEscape = why.TextCut

abbrev pub of_entry : RecordEntryError → Failure
of_entry (entries.Words offset rule) = failure_of_rule rule
of_entry (entries.MoreEntries offset) = why.BadData
of_entry (entries.Line error) = of_line error
of_entry entries.Memory = why.NoMemory

-- ---- texts that are none

-- why a text is no data of a class and type
abbrev pub LacksDataText : Option NameValue → DNSClass → RecordType → List ℕ → Failure → Type 0
LacksDataText origin class kind text failure =
    (error : RecordEntryError) × FailsDataEntry origin class kind text error × (failure ≡ of_entry error)

-- why a text is no record
abbrev pub LacksRecordText : Option NameValue → List ℕ → Failure → Type 0
LacksRecordText origin text failure = (error : RecordEntryError) × FailsRecordEntry origin text error × (failure ≡ of_entry error)

-- ---- what is put

-- The octets that a text is, with an origin, are put into a buffer.
abbrev pub PutsParsed : (Option NameValue → List ℕ → Type 0) → (Option NameValue → Failure → Type 0) → List ℕ → List ℕ → List ℕ → Result ℕ Failure → Type 0
PutsParsed Has Lacks form old new result =
    ((origin : Option NameValue) × (own : List ℕ) × IsOrigin form origin × Has origin own × Puts own (length own) old new result)
    ⊎ Refuses (λ failure. (origin : Option NameValue) × IsOrigin form origin × Lacks origin failure) old new result
    ⊎ Refuses (IsNoOrigin form) old new result

-- The data of the type and class with these codes are put.
abbrev pub PutsData : ℕ → ℕ → List ℕ → List ℕ → List ℕ → List ℕ → Result ℕ Failure → Type 0
PutsData code class text form old new result =
    PutsParsed (λ origin. IsDataEntry origin (class_of_code class) (type_of_code code) text)
    (λ origin. LacksDataText origin (class_of_code class) (type_of_code code) text) form old new result

-- The record is put.
abbrev pub PutsParsedRecord : List ℕ → List ℕ → List ℕ → List ℕ → Result ℕ Failure → Type 0
PutsParsedRecord text form old new result = PutsParsed (λ origin. IsRecordEntry origin text) (λ origin. LacksRecordText origin text) form old new result

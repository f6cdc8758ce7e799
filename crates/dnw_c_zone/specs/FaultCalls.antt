-- Where the texts of records and data go wrong, and by which reason (RFC 1035, section 5.1).
use Rattle.std.specs.Prelude.{◌≡◌, ◌⊎◌, ℕ, List, drop, length, Option, Result, Ok, Err}
use Rattle.dnw_base.specs.Names.{NameValue}
use Rattle.dnw_base.specs.DnsClasses.{class_of_code}
use Rattle.dnw_base.specs.RecordTypes.{type_of_code}
use Rattle.dnw_zone_record.specs.declared.word_error.WordRule.{WordRule}
use Rattle.dnw_zone_record.specs.declared.word_error.WordRule.TheVariants as rules
use Rattle.dnw_zone_data.specs.Words.{word}
use Rattle.dnw_zone_data.specs.declared.error.Wanted.{Wanted}
use Rattle.dnw_zone_data.specs.declared.error.Wanted.TheVariants as wanted
use Rattle.dnw_zone_data.specs.declared.error.DataTextError.{DataTextError}
use Rattle.dnw_zone_data.specs.declared.error.DataTextError.TheVariants.{Wanted as WantedAt, Memory as DataMemory}
use Rattle.dnw_zone_record.specs.RecordEntries.{FailsRecordEntry, IsRecordEntry}
use Rattle.dnw_zone_record.specs.DataEntries.{FailsDataEntry, IsDataEntry}
use Rattle.dnw_zone_record.specs.declared.record_line.RecordLineError.{RecordLineError}
use Rattle.dnw_zone_record.specs.declared.record_line.RecordLineError.TheVariants as lines
use Rattle.dnw_zone_record.specs.declared.entry.RecordEntryError.{RecordEntryError}
use Rattle.dnw_zone_record.specs.declared.entry.RecordEntryError.TheVariants as entries
use Rattle.dnw_c_base.specs.Results.{Puts, Refuses}
use Rattle.dnw_c_base.specs.declared.failure.Failure.{Failure}
use Rattle.dnw_c_base.specs.declared.failure.Failure.TheVariants.{NoMemory}
use Rattle.dnw_c_zone.specs.declared.reason.Reason.{Reason}
use Rattle.dnw_c_zone.specs.declared.reason.Reason.TheVariants as why
use Rattle.dnw_c_zone.specs.declared.text_faults.TextFault.{TextFault}
use Rattle.dnw_c_zone.specs.Reasons.{HasSentence, reason_number}
use Rattle.dnw_c_zone.specs.ParseCalls.{IsNoOrigin, IsOrigin}

-- ---- reasons

-- the reason for a rule that a text is against
abbrev pub reason_of_rule : WordRule → Reason
reason_of_rule rules.NestedParenthesis = why.NestedParenthesis
reason_of_rule rules.UnopenedParenthesis = why.UnopenedParenthesis
reason_of_rule rules.UnclosedParenthesis = why.UnclosedParenthesis
reason_of_rule rules.UnclosedQuote = why.UnclosedQuote
reason_of_rule rules.UnfinishedEscape = why.UnfinishedEscape

-- the reason for what was wanted of a field
abbrev pub reason_of_wanted : Wanted → Reason
reason_of_wanted wanted.Name = why.Name
reason_of_wanted wanted.U8 = why.U8
reason_of_wanted wanted.U16 = why.U16
reason_of_wanted wanted.U32 = why.U32
reason_of_wanted wanted.Period = why.Period
reason_of_wanted wanted.Algorithm = why.Algorithm
reason_of_wanted wanted.CertificateType = why.CertificateType
reason_of_wanted wanted.Time = why.Time
reason_of_wanted wanted.Ipv4 = why.Ipv4
reason_of_wanted wanted.Ipv6 = why.Ipv6
reason_of_wanted wanted.Eui48 = why.Eui48
reason_of_wanted wanted.Eui64 = why.Eui64
reason_of_wanted wanted.TypeCode = why.TypeCode
reason_of_wanted wanted.CharacterString = why.CharacterString
reason_of_wanted wanted.Tag = why.Tag
reason_of_wanted wanted.Salt = why.Salt
reason_of_wanted wanted.Hash = why.Hash
reason_of_wanted wanted.Text = why.Text
reason_of_wanted wanted.Hexadecimal = why.Hexadecimal
reason_of_wanted wanted.Base64 = why.Base64
reason_of_wanted wanted.Strings = why.Strings
reason_of_wanted wanted.Types = why.Types
reason_of_wanted wanted.Params = why.Params
reason_of_wanted wanted.Scheme = why.Scheme
reason_of_wanted wanted.Names = why.Names
reason_of_wanted wanted.Gateway = why.Gateway
reason_of_wanted wanted.Relay = why.Relay
reason_of_wanted wanted.HostIdentity = why.HostIdentity
reason_of_wanted wanted.Location = why.Location
reason_of_wanted wanted.Locator = why.Locator
reason_of_wanted wanted.NodeNumber = why.NodeNumber
reason_of_wanted wanted.Nsap = why.Nsap
reason_of_wanted wanted.Prefixes = why.Prefixes
reason_of_wanted wanted.Protocol = why.Protocol
reason_of_wanted wanted.Ports = why.Ports
reason_of_wanted wanted.OldTypes = why.OldTypes
reason_of_wanted wanted.Mandatory = why.Mandatory
reason_of_wanted wanted.FewerOctets = why.TooLong
reason_of_wanted wanted.Generic = why.Generic
reason_of_wanted wanted.Size = why.Size
reason_of_wanted (wanted.Octets count) = why.Octets
reason_of_wanted wanted.Data = why.Data
reason_of_wanted wanted.End = why.End

-- ---- faults

-- nothing is wrong
abbrev pub no_fault : TextFault
no_fault = record { offset = 0; len = 0; field = 0; reason = 0 }

-- a text goes wrong at an offset, where a word of so many octets is, maybe none
abbrev pub fault_at : List ℕ → ℕ → ℕ → Reason → TextFault
fault_at text offset field reason = record { offset = offset; len = length (word (drop offset text)); field = field; reason = reason_number reason }

-- where data go wrong in a text, or the failure if memory ran out
abbrev pub fault_of_data : List ℕ → DataTextError → Result TextFault Failure
fault_of_data text (WantedAt field offset wanted) = Ok (fault_at text offset field (reason_of_wanted wanted))
fault_of_data text DataMemory = Err NoMemory

abbrev pub fault_of_line : List ℕ → RecordLineError → Result TextFault Failure
fault_of_line text lines.NoOwner = Ok (fault_at text 0 0 why.NoOwner)
fault_of_line text (lines.NoTimeToLive offset) = Ok (fault_at text offset 0 why.NoTimeToLive)
fault_of_line text (lines.NoType offset) = Ok (fault_at text offset 0 why.NoType)
fault_of_line text (lines.Data error) = fault_of_data text error
fault_of_line text (lines.TooLong offset) = Ok (fault_at text offset 0 why.TooLong)
fault_of_line text lines.Memory = Err NoMemory

abbrev pub fault_of_entry : List ℕ → RecordEntryError → Result TextFault Failure
fault_of_entry text (entries.Words offset rule) = Ok (fault_at text offset 0 (reason_of_rule rule))
fault_of_entry text (entries.MoreEntries offset) = Ok (fault_at text offset 0 why.MoreEntries)
fault_of_entry text (entries.Line error) = fault_of_line text error
fault_of_entry text entries.Memory = Err NoMemory

-- ---- what is stored

-- With the origin nothing is wrong, or this is where a text goes wrong; or the origin is none.
abbrev pub FindsTextFault : {E : Type 0} → (Option NameValue → List ℕ → Type 0) → (Option NameValue → E → Type 0) → (E → Result TextFault Failure) → List ℕ → Result TextFault Failure → Type 0
FindsTextFault {E} Is Fails fault_of form result =
    ((origin : Option NameValue) × (own : List ℕ) × IsOrigin form origin × Is origin own × (result ≡ Ok no_fault))
    ⊎ ((origin : Option NameValue) × (error : E) × IsOrigin form origin × Fails origin error × (result ≡ fault_of error))
    ⊎ ((failure : Failure) × IsNoOrigin form failure × (result ≡ Err failure))

-- where a text that is a record, maybe with comments and parentheses, goes wrong
abbrev pub FindsRecordFault : List ℕ → List ℕ → Result TextFault Failure → Type 0
FindsRecordFault text form result =
    FindsTextFault (λ origin. IsRecordEntry origin text) (λ origin. FailsRecordEntry origin text) (fault_of_entry text) form result

-- where a text that is data of the type and class with these codes, maybe with comments and parentheses, goes wrong
abbrev pub FindsDataFault : ℕ → ℕ → List ℕ → List ℕ → Result TextFault Failure → Type 0
FindsDataFault code class text form result =
    FindsTextFault (λ origin. IsDataEntry origin (class_of_code class) (type_of_code code) text)
    (λ origin. FailsDataEntry origin (class_of_code class) (type_of_code code) text) (fault_of_entry text) form result

-- The sentence for a fault is put, or memory ran out.
abbrev pub PutsSentence : TextFault → List ℕ → List ℕ → Result ℕ Failure → Type 0
PutsSentence fault old new result =
    ((text : List ℕ) × HasSentence fault.offset fault.field fault.reason text × Puts text (length text) old new result)
    ⊎ Refuses (λ failure. failure ≡ NoMemory) old new result

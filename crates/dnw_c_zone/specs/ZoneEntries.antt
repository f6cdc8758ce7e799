-- What C learns of the entries of a zone file: records, `$INCLUDE`, and what is wrong and where.
use Rattle.std.specs.Prelude.{◌≡◌, ◌<◌, ◌≤◌, ◌⊎◌, ℕ, ◌==◌, ◌&&◌, not, Bool, true, false, if◌then◌else◌, List, [], ◌∷◌, ◌++◌, length, take, drop, Result, Ok, Err}
use Rattle.std.specs.Int.{w16, w32, to_be_bytes}
use Rattle.std.specs.Str.{IsUtf8}
use Rattle.dnw_base.specs.DnsClasses.{class_code}
use Rattle.dnw_base.specs.Limits.{max_data}
use Rattle.dnw_base.specs.Names.{wire}
use Rattle.dnw_base.specs.RecordTypes.{type_code}
use Rattle.dnw_c_base.specs.Results.{Puts, Refuses}
use Rattle.dnw_c_base.specs.declared.failure.Failure.{Failure}
use Rattle.dnw_c_base.specs.declared.failure.Failure.TheVariants.{DataTooLong, NoMemory}
use Rattle.dnw_c_zone.specs.FaultCalls.{fault_at, fault_of_line, no_fault, reason_of_rule}
use Rattle.dnw_c_zone.specs.ZonePlaces.{moved, size_sum}
use Rattle.dnw_c_zone.specs.ZoneStates.{owner_form}
use Rattle.dnw_c_zone.specs.declared.reason.Reason.{Reason}
use Rattle.dnw_c_zone.specs.declared.reason.Reason.TheVariants as why
use Rattle.dnw_c_zone.specs.declared.text_faults.TextFault.{TextFault}
use Rattle.dnw_c_zone.specs.declared.zone_entry.ZoneEntry.{ZoneEntry}
use Rattle.dnw_c_zone.specs.declared.zone_place.FilePlace.{FilePlace}
use Rattle.dnw_zone_file.specs.declared.context.Context.{Context}
use Rattle.dnw_zone_file.specs.declared.entry.Entry.TheVariants.{Nothing, Record as RecordEntry, Include as IncludeEntry}
use Rattle.dnw_zone_file.specs.declared.entry.Include.{Include}
use Rattle.dnw_zone_file.specs.declared.entry.ZoneRecord.{ZoneRecord}
use Rattle.dnw_zone_file.specs.declared.error.ZoneError.{ZoneError}
use Rattle.dnw_zone_file.specs.declared.error.ZoneError.TheVariants.{Wrong, Data, Memory}
use Rattle.dnw_zone_file.specs.declared.error.ZoneRule.{ZoneRule}
use Rattle.dnw_zone_file.specs.declared.error.ZoneRule.TheVariants as rules
use Rattle.dnw_zone_file.specs.declared.step.Found.{Found}
use Rattle.dnw_zone_file.specs.declared.step.Found.TheVariants.{Entry as IsOne, End, More}
use Rattle.dnw_zone_values.specs.Strings.{IsLongText}

-- what C learns of an entry at a place that puts nothing: its kind, and how many octets it takes
abbrev pub plain_entry : FilePlace → ℕ → ℕ → ZoneEntry
plain_entry at kind used = record {
  kind = kind;
  used = used;
  offset = at.offset;
  line = size_sum at.line 1;
  column = size_sum at.column 1;
  fault = no_fault;
  len = 0;
  name_len = 0;
  data_len = 0;
  ttl = 0;
  record_type = 0;
  record_class = 0;
}

-- ---- what is wrong

-- the reason for a rule that an entry is against
abbrev pub reason_of_zone_rule : ZoneRule → Reason
reason_of_zone_rule (rules.Words rule) = reason_of_rule rule
reason_of_zone_rule rules.NoOwner = why.NoOwnerBefore
reason_of_zone_rule rules.BadOwner = why.BadOwner
reason_of_zone_rule rules.NoTimeToLive = why.NoTimeToLiveBefore
reason_of_zone_rule rules.NoType = why.NoType
reason_of_zone_rule rules.UnknownType = why.UnknownType
reason_of_zone_rule rules.OtherType = why.OtherType
reason_of_zone_rule rules.TimeTooLarge = why.TimeTooLarge
reason_of_zone_rule rules.UnknownDirective = why.UnknownDirective
reason_of_zone_rule rules.Generate = why.Generate
reason_of_zone_rule rules.NoName = why.NoName
reason_of_zone_rule rules.NoTime = why.NoTime
reason_of_zone_rule rules.NoFile = why.NoFile
reason_of_zone_rule rules.WordsLeft = why.WordsLeft
reason_of_zone_rule rules.NoRange = why.NoRange
reason_of_zone_rule rules.TooMany = why.TooMany
reason_of_zone_rule rules.BadTemplate = why.BadTemplate

-- where a text goes wrong by an error, or the failure if memory ran out
abbrev pub fault_in : List ℕ → ZoneError → Result TextFault Failure
fault_in text (Wrong offset rule) = Ok (fault_at text offset 0 (reason_of_zone_rule rule))
fault_in text (Data error) = fault_of_line text error
fault_in text Memory = Err NoMemory

-- A word at an offset of a text is no name of a file.
abbrev pub no_file : List ℕ → ℕ → TextFault
no_file text offset = fault_at text offset 0 why.NoFile

-- what C learns of what is wrong in a text that begins at a place
abbrev pub fault_entry : FilePlace → List ℕ → ℕ → TextFault → ZoneEntry
fault_entry at text used fault = record (plain_entry (moved at (take fault.offset text)) 5 used) { fault = fault }

-- ---- records

-- a record (RFC 1035, section 3.2.1), of which these octets are the owner
abbrev pub zone_record_octets : List ℕ → ZoneRecord → List ℕ
zone_record_octets owner r =
    owner ++ to_be_bytes w16 (type_code r.record_type) ++ to_be_bytes w16 (class_code r.class) ++ to_be_bytes w32 r.ttl
    ++ to_be_bytes w16 (length r.wire.items) ++ r.wire.items

abbrev pub record_entry : FilePlace → ℕ → List ℕ → ZoneRecord → ZoneEntry
record_entry at used owner r = record (plain_entry at 3 used) {
  len = length (zone_record_octets owner r);
  name_len = length owner;
  data_len = length r.wire.items;
  ttl = r.ttl;
  record_type = type_code r.record_type;
  record_class = class_code r.class;
}

-- The record is put. No record that is read has too many octets of data.
abbrev pub PutsRecord : FilePlace → ℕ → List ℕ → ZoneRecord → List ℕ → List ℕ → Result ZoneEntry Failure → Type 0
PutsRecord at used owner r old new result =
    ((length r.wire.items ≤ max_data) × Puts (zone_record_octets owner r) (record_entry at used owner r) old new result)
    ⊎ Refuses (λ failure. (max_data < length r.wire.items) × (failure ≡ DataTooLong)) old new result

-- ---- files

abbrev pub has_zero : List ℕ → Bool
has_zero [] = false
has_zero (c ∷ cs) = if c == 0 then true else has_zero cs

abbrev pub is_file_name : List ℕ → Bool
is_file_name name = not (length name == 0) && not (has_zero name)

-- The word is the name of a file, maybe in quotes and with escapes.
abbrev pub IsFile : List ℕ → List ℕ → Type 0
IsFile word name = IsUtf8 word × IsLongText word name × (is_file_name name ≡ true)

abbrev pub include_entry : FilePlace → ℕ → List ℕ → List ℕ → ZoneEntry
include_entry at used origin file =
    record (plain_entry at 4 used) { len = length (origin ++ file); name_len = length origin; data_len = length file }

-- The origin of an `$INCLUDE` and the name of its file are put, unless memory runs out.
abbrev pub PutsFile : FilePlace → ℕ → Include → List ℕ → List ℕ → List ℕ → Result ZoneEntry Failure → Type 0
PutsFile at used include file old new result =
    Puts (wire include.origin.value.labels ++ file) (include_entry at used (wire include.origin.value.labels) file) old new result
    ⊎ Refuses (λ failure. failure ≡ NoMemory) old new result

-- The `$INCLUDE` is put, or its file has no name.
abbrev pub PutsInclude : FilePlace → ℕ → List ℕ → Include → List ℕ → List ℕ → Result ZoneEntry Failure → Type 0
PutsInclude at used text include old new result =
    let word = take include.file_len (drop include.file text) in
    ((file : List ℕ) × IsFile word file × PutsFile at used include file old new result)
    ⊎ (((file : List ℕ) → ¬ (IsFile word file)) × (result ≡ Ok (fault_entry at text used (no_file text include.file))) × (new ≡ old))
    ⊎ Refuses (λ failure. failure ≡ NoMemory) old new result

-- ---- entries

-- What is wrong is reported, or that memory ran out.
abbrev pub ReportsFault : FilePlace → List ℕ → ℕ → Result TextFault Failure → List ℕ → List ℕ → Result ZoneEntry Failure → Type 0
ReportsFault at text used (Ok fault) old new result = (result ≡ Ok (fault_entry at text used fault)) × (new ≡ old)
ReportsFault at text used (Err failure) old new result = (result ≡ Err failure) × (new ≡ old)

-- What a text begins with that begins at a place is put. After it the entries have made this context.
abbrev pub PutsFound : FilePlace → List ℕ → Context → ℕ → Result Found ZoneError → List ℕ → List ℕ → Result ZoneEntry Failure → Type 0
PutsFound at text after used (Ok End) old new result = (result ≡ Ok (plain_entry at 0 used)) × (new ≡ old)
PutsFound at text after used (Ok More) old new result = (result ≡ Ok (plain_entry at 1 used)) × (new ≡ old)
PutsFound at text after used (Ok (IsOne Nothing)) old new result = (result ≡ Ok (plain_entry at 2 used)) × (new ≡ old)
PutsFound at text after used (Ok (IsOne (RecordEntry r))) old new result = PutsRecord at used (owner_form after.owner) r old new result
PutsFound at text after used (Ok (IsOne (IncludeEntry include))) old new result = PutsInclude at used text include old new result
PutsFound at text after used (Err error) old new result = ReportsFault at text used (fault_in text error) old new result

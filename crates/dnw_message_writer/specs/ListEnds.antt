-- The records of a list that come last in its message, whatever their place in the list: what it says by EDNS, and its signature.
--
-- A message has one OPT record at most (RFC 6891, section 6.1.1). It has one signature at most, TSIG or SIG(0), which is the last of its
-- records (RFC 8945, section 5.1; RFC 2931, section 3).
use Rattle.std.specs.Prelude.{◌≡◌, ◌≢◌, ◌⊎◌, ◌==◌, ◌&&◌, ℕ, ◌+◌, ◌/◌, ◌%◌, ◌^◌, if◌then◌else◌, is_some, max, min, Bool, Option, Some, None, List, []}
use Rattle.dnw_base.specs.DnsClasses.{class_code}
use Rattle.dnw_base.specs.Limits.{min_payload}
use Rattle.dnw_base.specs.Names.{encoded_size}
use Rattle.dnw_base.specs.RecordTypes.{type_code}
use Rattle.dnw_base.specs.TypeCodes.{opt_code}
use Rattle.dnw_record.specs.Records.{RecordValue, data_octets, fixed_size}
use Rattle.dnw_message_writer.specs.Copying.{is_held}
use Rattle.dnw_message_writer.specs.Sections.{rank}
use Rattle.dnw_message_writer.specs.Edns.{AddsOpt, FailsToAddOpt, most_block}
use Rattle.dnw_message_writer.specs.ListResults.{error_of_data, error_of_write}
use Rattle.dnw_message_writer.specs.Listed.{FailsToAddData, data_form}
use Rattle.dnw_message_writer.specs.States.{AddsItem, for_last, more_octets, released}
use Rattle.dnw_message_writer.specs.declared.edns.Edns.{Edns}
use Rattle.dnw_message_writer.specs.declared.listed.DataError.{DataError}
use Rattle.dnw_message_writer.specs.declared.section.WriteError.{WriteError}
use Rattle.dnw_message_writer.specs.declared.section.Section.{Section}
use Rattle.dnw_message_writer.specs.declared.section.Section.TheVariants as Sections
use Rattle.dnw_message_writer.specs.declared.state.WriterState.{WriterState}
use Rattle.dnw_message_writer.specs.declared.list.ListError.{ListError}
use Rattle.dnw_message_writer.specs.declared.list.ListError.TheVariants as why
use Rattle.dnw_message_writer.specs.declared.list.ends.Ends.{Ends}

-- ---- which records they are

-- The record comes last: it is an additional one, as the octet before it says, and OPT or a signature of the message.
abbrev pub is_put_last : ℕ → RecordValue → Bool
is_put_last octet x = (octet % 4 == rank Sections.Additionals) && is_held x

abbrev pub says_edns : RecordValue → Bool
says_edns x = type_code x.record_type == opt_code

abbrev pub no_ends : Ends
no_ends = record { opt = None; signature = None }

-- with one more
abbrev pub with_end : RecordValue → Ends → Ends
with_end x e = if says_edns x then record e { opt = Some x } else record e { signature = Some x }

-- There is one of its kind already.
abbrev pub has_such : RecordValue → Ends → Bool
has_such x e = if says_edns x then is_some e.opt else is_some e.signature

-- why a second one of its kind is not taken
abbrev pub of_second : RecordValue → ListError
of_second x = if says_edns x then why.SecondOpt else why.BadItem

-- ---- the octets that are held back for them

-- how many octets a record has, if its names are whole
abbrev pub whole_item : RecordValue → ℕ
whole_item x = encoded_size x.owner + fixed_size + x.len

abbrev pub size_of_end : Option RecordValue → ℕ
size_of_end None = 0
size_of_end (Some x) = whole_item x

abbrev pub held_by : Ends → ℕ
held_by e = more_octets (size_of_end e.opt) (size_of_end e.signature)

-- ---- how they are written

-- A record of a list is added to a section.
abbrev pub AddsListed : Section → RecordValue → WriterState → List ℕ → WriterState → List ℕ → Type 0
AddsListed s x = AddsItem s (data_form x.owner (type_code x.record_type) (class_code x.class) x.ttl (data_octets x))

-- It is not, for this reason.
abbrev pub FailsToAddListed : Section → RecordValue → WriterState → List ℕ → ListError → Type 0
FailsToAddListed s x w m failure =
    (error : DataError) × FailsToAddData s x.owner (type_code x.record_type) (class_code x.class) x.ttl (data_octets x) w m error
    × (failure ≡ error_of_data error)

-- what an OPT record says, but for the high bits of the response code, which are those of the message's (RFC 6891, section 6.1.3)
pub record SaysWithCode (code : ℕ) (x : RecordValue) (e : Edns) : Type 0 where
  pub payload : e.max_payload ≡ max (class_code x.class) min_payload
  pub high : e.rcode_high ≡ code / 16 % 256
  pub version_is : e.version ≡ x.ttl / 2 ^ 16 % 256
  pub wants : e.dnssec_ok ≡ (x.ttl / 2 ^ 15 % 2 == 1)
  pub others : e.options.now ≡ data_octets x

-- An OPT record is added that says so. With a block it has the option for padding: the message, with what comes after the record, has a
-- multiple of the block (RFC 7830; RFC 8467).
abbrev pub AddsOptAs : ℕ → ℕ → RecordValue → WriterState → List ℕ → WriterState → List ℕ → Type 0
AddsOptAs code block x w m v n =
    (e : Edns) × SaysWithCode code x e × AddsOpt e (min block most_block) (released (whole_item x) w) m v n

abbrev pub FailsToAddOptAs : ℕ → ℕ → RecordValue → WriterState → List ℕ → ListError → Type 0
FailsToAddOptAs code block x w m failure =
    (e : Edns) × SaysWithCode code x e × (error : WriteError) × FailsToAddOpt e (min block most_block) (released (whole_item x) w) m error
    × (failure ≡ error_of_write error)

-- So it is if there is one, which the root owns (RFC 6891, section 6.1.2).
abbrev pub AddsOptEnd : ℕ → ℕ → Option RecordValue → WriterState → List ℕ → WriterState → List ℕ → Type 0
AddsOptEnd code block None w m v n = (v ≡ w) × (n ≡ m)
AddsOptEnd code block (Some x) w m v n = (x.owner ≡ []) × AddsOptAs code block x w m v n

abbrev pub FailsToAddOptEnd : ℕ → ℕ → Option RecordValue → WriterState → List ℕ → ListError → Type 0
FailsToAddOptEnd code block None w m failure = ⊥
FailsToAddOptEnd code block (Some x) w m failure =
    ((x.owner ≢ []) × (failure ≡ why.OwnerNotRoot)) ⊎ ((x.owner ≡ []) × FailsToAddOptAs code block x w m failure)

-- A signature is added with as many of the octets that are held back as it has with its names whole.
abbrev pub AddsWhole : RecordValue → WriterState → List ℕ → WriterState → List ℕ → Type 0
AddsWhole x w = AddsListed Sections.Additionals x (for_last (whole_item x) w)

abbrev pub FailsToAddWhole : RecordValue → WriterState → List ℕ → ListError → Type 0
FailsToAddWhole x w = FailsToAddListed Sections.Additionals x (for_last (whole_item x) w)

-- So it is if there is one.
abbrev pub AddsSignature : Option RecordValue → WriterState → List ℕ → WriterState → List ℕ → Type 0
AddsSignature None w m v n = (v ≡ w) × (n ≡ m)
AddsSignature (Some x) w m v n = AddsWhole x w m v n

abbrev pub FailsToAddSignature : Option RecordValue → WriterState → List ℕ → ListError → Type 0
FailsToAddSignature None w m failure = ⊥
FailsToAddSignature (Some x) w m failure = FailsToAddWhole x w m failure

-- The records that come last are added: OPT, and then the signature.
abbrev pub AddsEnds : ℕ → ℕ → Ends → WriterState → List ℕ → WriterState → List ℕ → Type 0
AddsEnds code block e w m v n =
    (u : WriterState) × (between : List ℕ) × AddsOptEnd code block e.opt w m u between × AddsSignature e.signature u between v n

-- One of them is not, for this reason.
abbrev pub FailsToAddEnds : ℕ → ℕ → Ends → WriterState → List ℕ → ListError → Type 0
FailsToAddEnds code block e w m failure =
    FailsToAddOptEnd code block e.opt w m failure
    ⊎ ((u : WriterState) × (between : List ℕ) × AddsOptEnd code block e.opt w m u between × FailsToAddSignature e.signature u between failure)

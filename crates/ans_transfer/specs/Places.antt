-- How far a transfer has come, record by record and message by message.
use Rattle.std.specs.Prelude.{◌==◌, ◌&&◌, ◌+◌, ◌*◌, ◌/◌, ◌%◌, ◌^◌, ◌∷◌, [], ℕ, Bool, true, false, not, if◌then◌else◌, Option, Some, None, Result, Ok, Err, List}
use Rattle.std.specs.declared.cmp.Ordering.{Ordering}
use Rattle.std.specs.declared.cmp.Ordering.TheVariants.{Less, Equal, Greater}
use Rattle.dns_names_wire.specs.Words.{MessageValue, QueryValue, RecordValue, axfr_code, class_code, is_in, is_same, ixfr_code, opts_in, response_code, response_of_code, serial_cmp, soa_code, type_code}
use Rattle.dns_names_wire.specs.declared.message.MessageType.{MessageType}
use Rattle.dns_names_wire.specs.declared.message.MessageType.TheVariants.{Query, Response}
use Rattle.ans_transfer.specs.Transfers.{RequestValue, serial_of}
use Rattle.ans_transfer.specs.declared.changes.Change.{Change}
use Rattle.ans_transfer.specs.declared.changes.Change.TheVariants as change
use Rattle.ans_transfer.specs.declared.changes.Changed.{Changed}
use Rattle.ans_transfer.specs.declared.error.TransferError.{TransferError}
use Rattle.ans_transfer.specs.declared.error.TransferError.TheVariants as error
use Rattle.ans_transfer.specs.declared.place.Place.{Place}
use Rattle.ans_transfer.specs.declared.place.Place.TheVariants as place
use Rattle.ans_transfer.specs.declared.place.Step.{Step}
use Rattle.ans_transfer.specs.declared.place.Step.TheVariants as status
use Rattle.ans_transfer.specs.declared.request.Kind.{Kind}
use Rattle.ans_transfer.specs.declared.request.Kind.TheVariants.{Axfr, Ixfr}

-- A transfer: what was asked, and how far it has come.
pub record TransferValue : Type 0 where
  pub asked : RequestValue
  pub place : Place

-- ---- records

abbrev pub is_less : Option Ordering → Bool
is_less (Some Less) = true
is_less (Some Equal) = false
is_less (Some Greater) = false
is_less None = false

-- The serial number comes after the other (RFC 1982, section 3.2).
unfoldable pub is_newer : ℕ → ℕ → Bool
is_newer serial other = is_less (serial_cmp other serial)

-- The first SOA record has the version of the server. If the client's is no older, there is nothing to transfer (RFC 1995, section 2).
unfoldable pub after_first : Kind → ℕ → Place
after_first Axfr serial = place.Begun serial
after_first (Ixfr own) serial = if is_newer serial own then place.Begun serial else place.UpToDate

-- If an SOA record comes next, it is the end of a zone without other records; or it has the client's version, and changes follow
-- (RFC 1995, section 4).
unfoldable pub after_second : Kind → ℕ → ℕ → Result Place TransferError
after_second Axfr new serial = if serial == new then Ok (place.EndOfZone new) else Err error.OtherSerial
after_second (Ixfr own) new serial =
    if serial == new then Ok (place.EndOfZone new) else if serial == own then Ok (place.InDeleted new) else Err error.OtherSerial

-- After the records that a step adds there is an SOA record with the version that it led to: the last one, or that of the next step.
unfoldable pub after_step : ℕ → ℕ → ℕ → Result Place TransferError
after_step new to serial =
    if serial == to then (if to == new then Ok (place.EndOfChanges new) else Ok (place.InDeleted new)) else Err error.OtherSerial

-- where the zone's SOA record with this serial number leads
unfoldable pub at_soa : Kind → Place → ℕ → Result Place TransferError
at_soa kind place.Start serial = Ok (after_first kind serial)
at_soa kind (place.Begun new) serial = after_second kind new serial
at_soa kind (place.InZone new) serial = if serial == new then Ok (place.EndOfZone new) else Err error.OtherSerial
at_soa kind (place.InDeleted new) serial = Ok (place.InAdded new serial)
at_soa kind (place.InAdded new to) serial = after_step new to serial
at_soa kind (place.EndOfZone new) serial = Err error.AfterEnd
at_soa kind (place.EndOfChanges new) serial = Err error.AfterEnd
at_soa kind place.UpToDate serial = Err error.AfterEnd

-- where another record of the zone leads
unfoldable pub at_other : Place → Result Place TransferError
at_other place.Start = Err error.NoSoa
at_other (place.Begun new) = Ok (place.InZone new)
at_other (place.InZone new) = Ok (place.InZone new)
at_other (place.InDeleted new) = Ok (place.InDeleted new)
at_other (place.InAdded new to) = Ok (place.InAdded new to)
at_other (place.EndOfZone new) = Err error.AfterEnd
at_other (place.EndOfChanges new) = Err error.AfterEnd
at_other place.UpToDate = Err error.AfterEnd

abbrev pub by_serial : Kind → Place → Option ℕ → Result Place TransferError
by_serial kind p None = Err error.ShortSoa
by_serial kind p (Some serial) = at_soa kind p serial

abbrev pub by_owner : Bool → Kind → Place → Option ℕ → Result Place TransferError
by_owner apex kind p serial = if apex then by_serial kind p serial else Err error.SoaBelow

-- where a record leads
unfoldable pub passed_one : RequestValue → Place → RecordValue → Result Place TransferError
passed_one asked p r =
    if not (class_code r.class == asked.class) then Err error.OtherClass
    else if not (is_in asked.zone r.owner) then Err error.OutOfZone
    else if type_code r.record_type == soa_code then by_owner (is_same r.owner asked.zone) asked.kind p (serial_of r)
    else at_other p

-- where records lead
abbrev pub passed : RequestValue → Place → List RecordValue → Result Place TransferError
passed asked p [] = Ok p
passed asked p (r ∷ records) = elim (passed_one asked p r) [ Err why ↦ Err why | Ok next ↦ passed asked next records ]

-- ---- what records do

abbrev pub by_place : Place → Change
by_place (place.InDeleted new) = change.Delete
by_place p = change.Add

-- what a record does to the zone that is kept
unfoldable pub change_at : Place → RecordValue → Change
change_at p r = if type_code r.record_type == soa_code then change.Soa else by_place p

abbrev pub or_stay : Place → Result Place TransferError → Place
or_stay p (Err why) = p
or_stay p (Ok next) = next

-- where a record leads that belongs there
unfoldable pub next_place : RequestValue → Place → RecordValue → Place
next_place asked p r = or_stay p (passed_one asked p r)

-- what records do, one after another
abbrev pub changes_from : RequestValue → Place → List RecordValue → List Changed
changes_from asked p [] = []
changes_from asked p (r ∷ records) = (record { change = change_at p r; item = r }) ∷ changes_from asked (next_place asked p r) records

-- ---- messages

-- the high bits of the response code (RFC 6891, section 6.1.3)
abbrev pub high_bits_of : List RecordValue → ℕ
high_bits_of [] = 0
high_bits_of (opt ∷ others) = opt.ttl / 2 ^ 24

-- the response code
unfoldable pub code_of_reply : MessageValue → ℕ
code_of_reply m = response_code m.header.metadata.response_code % 16 + high_bits_of (opts_in m.additionals) * 16

abbrev pub is_reply : MessageType → Bool
is_reply Query = false
is_reply Response = true

-- the codes of the types AXFR and IXFR
abbrev pub kind_code : Kind → ℕ
kind_code Axfr = axfr_code
kind_code (Ixfr own) = ixfr_code

-- The question is that of the request.
unfoldable pub asks_it : RequestValue → QueryValue → Bool
asks_it asked q = is_same q.name asked.zone && (type_code q.query_type == kind_code asked.kind && class_code q.query_class == asked.class)

-- A record came.
unfoldable pub has_begun : Place → Bool
has_begun place.Start = false
has_begun p = true

-- A message has the question of the request. Only the first has to (RFC 5936, section 2.2.2).
unfoldable pub has_question : RequestValue → Place → List QueryValue → Bool
has_question asked p [] = has_begun p
has_question asked p (q ∷ []) = asks_it asked q
has_question asked p (q ∷ other ∷ queries) = false

-- The transfer is over.
abbrev pub is_over : Place → Bool
is_over (place.EndOfZone new) = true
is_over (place.EndOfChanges new) = true
is_over place.UpToDate = true
is_over p = false

-- The first message has an SOA record at least (RFC 5936, section 2.2).
abbrev pub begun : Result Place TransferError → Result Place TransferError
begun (Err why) = Err why
begun (Ok p) = if has_begun p then Ok p else Err error.NoSoa

-- Why a message is no part of the transfer, whatever its records (RFC 5936, section 2.2.1).
unfoldable pub message_fault : RequestValue → Place → MessageValue → Option TransferError
message_fault asked p m =
    if not (m.header.metadata.id == asked.id) then Some error.OtherId
    else if not (is_reply m.header.metadata.message_type) then Some error.NotAResponse
    else if not (code_of_reply m == 0) then Some (error.Failed (response_of_code (code_of_reply m)))
    else if m.header.metadata.truncation then Some error.Truncated
    else if not (has_question asked p m.queries) then Some error.OtherQuestion
    else if is_over p then Some error.AfterEnd
    else None

abbrev pub by_fault : Option TransferError → Result Place TransferError → Result Place TransferError
by_fault None x = begun x
by_fault (Some why) x = Err why

-- where a message leads
unfoldable pub taken : RequestValue → Place → MessageValue → Result Place TransferError
taken asked p m = by_fault (message_fault asked p m) (passed asked p m.answers)

-- where messages lead
abbrev pub all_taken : RequestValue → Place → List MessageValue → Result Place TransferError
all_taken asked p [] = Ok p
all_taken asked p (m ∷ messages) = elim (taken asked p m) [ Err why ↦ Err why | Ok next ↦ all_taken asked next messages ]

-- what has come of a transfer
unfoldable pub status_of : Place → Step
status_of place.Start = status.Begun
status_of (place.Begun new) = status.Begun
status_of (place.InZone new) = status.More
status_of (place.InDeleted new) = status.More
status_of (place.InAdded new to) = status.More
status_of (place.EndOfZone new) = status.Done
status_of (place.EndOfChanges new) = status.Done
status_of place.UpToDate = status.UpToDate

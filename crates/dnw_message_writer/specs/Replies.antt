-- How a reply begins (RFC 1035, section 4.1.1; RFC 6891, sections 6.1.3 and 7; RFC 9619).
use Rattle.std.specs.Prelude.{◌≡◌, ℕ, ◌+◌, ◌%◌, ◌<◌, ◌≤◌, ◌==◌, ◌||◌, ◌⊎◌, nat_lt, not, if◌then◌else◌, Bool, true, false, min, bit_and, bit_or, Option, Some, None, List, [], ◌∷◌, length, slice_index}
use Rattle.std.specs.Int.{w16, from_be_bytes}
use Rattle.dnw_base.specs.DnsClasses.{class_code}
use Rattle.dnw_base.specs.Limits.{max_pointers, min_payload}
use Rattle.dnw_base.specs.RecordTypes.{type_code}
use Rattle.dnw_message_read.specs.Edns.{EdnsValue, FailsEdns, HasEdns}
use Rattle.dnw_message_read.specs.Messages.{FailsMessage, MessageAt, MessageValue, QueryValue}
use Rattle.dnw_message_read.specs.ResponseCodes.{response_code}
use Rattle.dnw_message_read.specs.declared.edns.EdnsError.{EdnsError}
use Rattle.dnw_message_read.specs.declared.error.MessageError.{MessageError}
use Rattle.dnw_message_read.specs.declared.response_code.ResponseCode.TheVariants.{BADVERS, FormErr, NotImp}
use Rattle.dnw_message_writer.specs.Hints.{slot_of}
use Rattle.dnw_message_writer.specs.Items.{question_form, question_past}
use Rattle.dnw_message_writer.specs.Sections.{rank}
use Rattle.dnw_message_writer.specs.Standing.{first_item}
use Rattle.dnw_message_writer.specs.States.{AddsItem, BeginsMessage, FailsToAdd}
use Rattle.dnw_message_writer.specs.declared.reply.Asked.{Asked}
use Rattle.dnw_message_writer.specs.declared.reply.ReplyError.{ReplyError}
use Rattle.dnw_message_writer.specs.declared.reply.ReplyError.TheVariants.{LongCode, NoRequest, Write}
use Rattle.dnw_message_writer.specs.declared.section.Section.TheVariants.{Additionals, Queries}
use Rattle.dnw_message_writer.specs.declared.section.WriteError.{WriteError}
use Rattle.dnw_message_writer.specs.declared.section.WriteError.TheVariants.{NoRoom}
use Rattle.dnw_message_writer.specs.declared.state.WriterState.{WriterState}

-- ---- codes

-- the response codes FORMERR and NOTIMP (RFC 1035, section 4.1.1), and BADVERS (RFC 6891, section 6.1.3)
abbrev pub formerr_code : ℕ
formerr_code = response_code FormErr

abbrev pub notimp_code : ℕ
notimp_code = response_code NotImp

abbrev pub badvers_code : ℕ
badvers_code = response_code BADVERS

-- the greatest response code of four bits, which a header has (RFC 1035, section 4.1.1), and of twelve, as with EDNS (RFC 6891, section
-- 6.1.3)
abbrev pub most_in_header : ℕ
most_in_header = 15

abbrev pub most_by_edns : ℕ
most_by_edns = 4095

-- ---- requests

-- The octets have a header, and QR is clear.
abbrev pub IsRequest : List ℕ → Type 0
IsRequest octets = (first_item ≤ length octets) × (slice_index octets 2 < 128)

-- the number that two octets are
abbrev pub field_at : List ℕ → ℕ → ℕ
field_at octets p = from_be_bytes w16 (slice_index octets p ∷ slice_index octets (p + 1) ∷ [])

-- a request without EDNS, to be answered with this code, if it is not 0
abbrev pub nothing_asked : ℕ → Asked
nothing_asked code = record { has_edns = false; max_payload = min_payload; dnssec_ok = false; rcode = code }

-- the response code of a request with a version of EDNS: BADVERS for another one than 0
abbrev pub code_for : ℕ → ℕ
code_for version = if nat_lt 0 version then badvers_code else 0

-- what EDNS asks
abbrev pub asks_by : EdnsValue → Asked
asks_by e = record { has_edns = true; max_payload = e.max_payload; dnssec_ok = e.dnssec_ok; rcode = code_for e.version }

-- What a message asks by EDNS: nothing if it has none, and FORMERR if it breaks a rule.
abbrev pub AsksByEdns : MessageValue → Asked → Type 0
AsksByEdns m asked =
    ((e : EdnsError) × FailsEdns m e × (asked ≡ nothing_asked formerr_code))
    ⊎ (HasEdns m None × (asked ≡ nothing_asked 0))
    ⊎ ((e : EdnsValue) × HasEdns m (Some e) × (asked ≡ asks_by e))

-- the only one of these questions, if there is one
abbrev pub IsOnlyQuery : List QueryValue → Option QueryValue → Type 0
IsOnlyQuery [] None = Unit {0}
IsOnlyQuery (x ∷ []) (Some q) = q ≡ x
IsOnlyQuery xs q = ⊥

-- a request to be answered with FORMERR, if it is not with another code
abbrev pub malformed : Asked → Asked
malformed asked = record asked { rcode = if asked.rcode == 0 then formerr_code else asked.rcode }

-- What a request asks, and the question that its reply repeats. One that cannot be read, or has more than one question, is answered
-- with FORMERR and without a question; if it can be read, its EDNS counts all the same (RFC 6891, section 6.1.1).
abbrev pub AsksOf : List ℕ → Asked → Option QueryValue → Type 0
AsksOf request asked query =
    ((e : MessageError) × FailsMessage request max_pointers e × (asked ≡ nothing_asked formerr_code) × (query ≡ None))
    ⊎ ((m : MessageValue) × (k : ℕ) × MessageAt request m k
    × (((2 ≤ length m.queries) × (by_edns : Asked) × AsksByEdns m by_edns × (asked ≡ malformed by_edns) × (query ≡ None))
    ⊎ (IsOnlyQuery m.queries query × AsksByEdns m asked)))

-- ---- replies

-- QR is set; the operation, RD and CD are those of the request; AA, RA and AD are the server's.
abbrev pub reply_flags : ℕ → ℕ → ℕ → ℕ
reply_flags requested own code = bit_or (bit_or (bit_or 32768 (bit_and requested 30992)) (bit_and own 1184)) code

-- the response code: that which the request has to get, or else the server's
abbrev pub reply_code : Asked → ℕ → ℕ
reply_code asked own = if asked.rcode == 0 then own else asked.rcode

-- the greatest code of a message: of twelve bits with EDNS, and else of four
abbrev pub most_code : Bool → ℕ
most_code has_edns = if has_edns then most_by_edns else most_in_header

-- A reply with this code takes records. One with FORMERR, NOTIMP or BADVERS is whole without (RFC 1035, section 4.1.1; RFC 6891, section
-- 6.1.3).
abbrev pub takes_records : ℕ → Bool
takes_records code = not ((code == formerr_code) || (code == notimp_code) || (code == badvers_code))

-- A question is added, if there is one.
abbrev pub AddsQuestion : Option QueryValue → WriterState → List ℕ → WriterState → List ℕ → Type 0
AddsQuestion None w old after new = (after ≡ w) × (new ≡ old)
AddsQuestion (Some q) w old after new =
    AddsItem Queries (question_form slot_of q.name (type_code q.query_type) (class_code q.query_class))
    w old after new

-- A message begins, with a question, if there is one.
abbrev pub BeginsAsked : Option QueryValue → ℕ → ℕ → ℕ → List ℕ → WriterState → List ℕ → Type 0
BeginsAsked query id flags max_size old after new =
    (w : WriterState) × (between : List ℕ) × BeginsMessage id flags max_size old w between × AddsQuestion query w between after new

-- There is no room for the header, or for the question.
abbrev pub FailsToBeginAsked : Option QueryValue → ℕ → ℕ → ℕ → List ℕ → WriteError → Type 0
FailsToBeginAsked query id flags max_size old e =
    (((length old < first_item) ⊎ (max_size < first_item)) × (e ≡ NoRoom))
    ⊎ ((q : QueryValue) × (query ≡ Some q) × (w : WriterState) × (between : List ℕ) × BeginsMessage id flags max_size old w between
    × FailsToAdd Queries (question_past slot_of q.name) w between e)

-- If the reply is to have an OPT record, 11 octets are held back for it.
abbrev pub held_for : Asked → WriterState → WriterState
held_for asked w = if asked.has_edns then record w { reserved = min (w.reserved + 11) 18446744073709551615 } else w

-- If a reply with this code takes no records, only additional ones may follow: OPT, and a signature of the message.
abbrev pub closed_for : ℕ → WriterState → WriterState
closed_for code w = if takes_records code then w else record w { rank = rank Additionals }

-- The reply to a request begins, with this code of the server's, if the request has to get no other.
abbrev pub BeginsReplyTo : List ℕ → ℕ → ℕ → ℕ → Asked → List ℕ → WriterState → List ℕ → Type 0
BeginsReplyTo request own code max_size asked old after new =
    IsRequest request × (query : Option QueryValue) × AsksOf request asked query × (reply_code asked code ≤ most_code asked.has_edns)
    × (w : WriterState)
    × BeginsAsked query (field_at request 0) (reply_flags (field_at request 2) own (reply_code asked code % 16)) max_size old w new
    × (after ≡ closed_for (reply_code asked code) (held_for asked w))

-- It does not: the octets are no request, or the reply has no place for the code, or there is no room.
abbrev pub FailsToReply : List ℕ → ℕ → ℕ → ℕ → List ℕ → ReplyError → Type 0
FailsToReply request own code max_size old NoRequest = IsRequest request → ⊥
FailsToReply request own code max_size old LongCode =
    IsRequest request × (query : Option QueryValue) × (asked : Asked) × AsksOf request asked query
    × (most_code asked.has_edns < reply_code asked code)
FailsToReply request own code max_size old (Write e) =
    IsRequest request × (query : Option QueryValue) × (asked : Asked) × AsksOf request asked query
    × FailsToBeginAsked query (field_at request 0) (reply_flags (field_at request 2) own (reply_code asked code % 16)) max_size old e

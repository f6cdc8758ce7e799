-- What a server replies to a request by its zone (RFC 1034, section 4.3.2; RFC 1035, section 4.1.1; RFC 6891; RFC 9619), without DNSSEC.
use Rattle.std.specs.Prelude.{ℕ, ◌==◌, Bool, false, if◌then◌else◌, List, [], ◌∷◌, Option, Some, None}
use Rattle.std.specs.Option.{option_to_list}
use Rattle.dns_names_wire.specs.Words.{QueryValue, RecordValue, axfr_code, class_code, formerr_code, ixfr_code, notimp_code, type_code}
use Rattle.dns_names_wire.specs.declared.message_writer.Asked.{Asked}
use Rattle.ans_store.specs.Zones.{ZoneValue}
use Rattle.ans_answer.specs.Answers.{ZoneAnswer, answer}
use Rattle.ans_answer.specs.declared.answer.Rcode.{Rcode}
use Rattle.ans_answer.specs.declared.answer.Rcode.TheVariants.{NoError, NXDomain, Refused, YXDomain}
use Rattle.ans_reply.specs.Sections.{ReplyRecord, helping_parts, section_of}

-- What a reply says besides its question.
pub record ZoneReply : Type 0 where
  pub code : ℕ
  pub authoritative : Bool
  pub answers : List ReplyRecord
  pub authorities : List ReplyRecord
  pub additionals : List ReplyRecord

-- the number of a response code (RFC 1035, section 4.1.1; RFC 2136, section 2.2)
abbrev pub rcode_number : Rcode → ℕ
rcode_number NoError = 0
rcode_number NXDomain = 3
rcode_number Refused = 5
rcode_number YXDomain = 6

-- a reply with a code alone
abbrev pub bare : ℕ → ZoneReply
bare code = record { code = code; authoritative = false; answers = []; authorities = []; additionals = [] }

-- ---- what is no question to the zone

-- The class of a zone is that of its records, which have one (RFC 1035, section 5.2).
abbrev pub zone_class : List RecordValue → ℕ
zone_class [] = 0
zone_class (r ∷ records) = class_code r.class

-- A transfer is more than one message (RFC 5936, section 2.2): AXFR is not implemented here, and IXFR refused, as nsd says of both.
abbrev pub refused_transfer : ℕ → ℕ
refused_transfer code = if code == axfr_code then notimp_code else if code == ixfr_code then rcode_number Refused else 0

abbrev pub refused_class : ℕ → ℕ → ℕ
refused_class class asked = if asked == class then 0 else rcode_number Refused

-- Why a zone of this class is not asked: the response code, or 0 if it is asked.
abbrev pub refused_for : ℕ → QueryValue → ℕ
refused_for class q =
    if refused_transfer (type_code q.query_type) == 0 then refused_class class (class_code q.query_class)
    else refused_transfer (type_code q.query_type)

-- the response code of a request without a question, or with more than one (RFC 9619)
abbrev pub if_asked : ℕ → Option QueryValue → ℕ
if_asked class None = formerr_code
if_asked class (Some q) = refused_for class q

-- the code that a request gets whatever its question is: NOTIMP for another operation than a query, or what the request has to get; or 0
abbrev pub general_code : ℕ → Asked → ℕ
general_code operation asked = if operation == 0 then asked.rcode else notimp_code

-- the code with which a request is answered before the zone is asked, or 0
abbrev pub early_code : ℕ → ℕ → Option QueryValue → ℕ
early_code class general query = if general == 0 then if_asked class query else general

-- ---- what the zone says

abbrev pub reply_by : ZoneValue → ℕ → ZoneAnswer → ZoneReply
reply_by zone code a = record {
  code = rcode_number a.code;
  authoritative = a.authoritative;
  answers = section_of a.answers;
  authorities = section_of (option_to_list a.authority);
  additionals = section_of (helping_parts zone code a);
}

abbrev pub zone_reply : ZoneValue → Option QueryValue → ZoneReply
zone_reply zone None = bare formerr_code
zone_reply zone (Some q) = reply_by zone (type_code q.query_type) (answer zone q.name (type_code q.query_type))

-- ---- the reply

abbrev pub reply_after : ZoneValue → ℕ → Option QueryValue → ZoneReply
reply_after zone early query = if early == 0 then zone_reply zone query else bare early

-- the reply to a request that gets this code whatever its question is, or 0, and has this question alone
abbrev pub reply_to_question : ZoneValue → ℕ → Option QueryValue → ZoneReply
reply_to_question zone general query = reply_after zone (early_code (zone_class zone.records) general query) query

-- the reply to a request with this operation, that asks so
abbrev pub reply_of : ZoneValue → ℕ → Asked → Option QueryValue → ZoneReply
reply_of zone operation asked query = reply_to_question zone (general_code operation asked) query

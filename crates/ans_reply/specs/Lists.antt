-- Replies as lists of items, of which messages are written. An item is an octet for its section, and then a question or a record in wire
-- form, without pointers (RFC 1035, sections 4.1.2 and 4.1.3).
use Rattle.std.specs.Prelude.{ℕ, ◌%◌, ◌^◌, Bool, if◌then◌else◌, List, [], ◌∷◌, ◌++◌, Option, Some, None, length}
use Rattle.std.specs.Int.{w16, w32, to_be_bytes}
use Rattle.std.specs.List.{flat_map}
use Rattle.dns_names_wire.specs.Words.{QueryValue, class_code, opt_code, type_code, wire}
use Rattle.dns_names_wire.specs.declared.message_writer.Asked.{Asked}
use Rattle.ans_reply.specs.Replies.{ZoneReply}
use Rattle.ans_reply.specs.Sections.{ReplyRecord}

abbrev pub item_of_question : Option QueryValue → List ℕ
item_of_question None = []
item_of_question (Some q) = 0 ∷ (wire q.name ++ (to_be_bytes w16 (type_code q.query_type) ++ to_be_bytes w16 (class_code q.query_class)))

-- what is between the owner and the data; of their length there are two octets
abbrev pub fields_of_reply : ReplyRecord → List ℕ
fields_of_reply x =
    to_be_bytes w16 x.code ++ (to_be_bytes w16 x.class ++ (to_be_bytes w32 x.ttl ++ to_be_bytes w16 (length x.octets % 2 ^ 16)))

abbrev pub item_of_record : ℕ → ReplyRecord → List ℕ
item_of_record section x = section ∷ (wire x.owner ++ (fields_of_reply x ++ x.octets))

abbrev pub section_items : ℕ → List ReplyRecord → List ℕ
section_items section records = flat_map (item_of_record section) records

-- the size of the messages that a server accepts, in octets
abbrev pub own_payload : ℕ
own_payload = 1232

-- The OPT record that the reply has if the request has one: with version 0, its DO, and no options (RFC 6891, section 6.1; RFC 3225,
-- section 3). The high bits of the response code are put in when the message is written.
abbrev pub opt_octets : Bool → List ℕ
opt_octets dnssec_ok =
    3 ∷ 0 ∷ (to_be_bytes w16 opt_code ++ (to_be_bytes w16 own_payload ++ (to_be_bytes w32 (if dnssec_ok then 2 ^ 15 else 0) ++ 0 ∷ 0 ∷ [])))

abbrev pub opt_item : Asked → List ℕ
opt_item asked = if asked.has_edns then opt_octets asked.dnssec_ok else []

abbrev pub sections_items : ZoneReply → List ℕ
sections_items reply = section_items 1 reply.answers ++ (section_items 2 reply.authorities ++ section_items 3 reply.additionals)

-- the items of a reply: the question as it was asked, the records, and OPT
abbrev pub reply_items : Asked → Option QueryValue → ZoneReply → List ℕ
reply_items asked query reply = item_of_question query ++ (sections_items reply ++ opt_item asked)

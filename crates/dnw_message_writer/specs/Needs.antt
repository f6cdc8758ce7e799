-- What a message cannot do without, and what it may leave out if it has no room: one definition for each call that leaves records out.
--
-- TC says that something required is missing, and is not set only because some extra information had no room (RFC 2181, section 9).
use Rattle.std.specs.Prelude.{ℕ, ◌/◌, ◌%◌, ◌-◌, ◌^◌, ◌==◌, ◌&&◌, ◌||◌, nat_eq, nat_le, nat_lt, not, if◌then◌else◌, Bool, true, false, Option, None, Some, List, [], ◌∷◌, drop, length}
use Rattle.std.specs.Cmp.Lexicographic.{pointwise}
use Rattle.dnw_base.specs.DnsClasses.{class_code}
use Rattle.dnw_base.specs.Names.{lower}
use Rattle.dnw_base.specs.RecordTypes.{type_code}
use Rattle.dnw_name_order.specs.Order.{labels_eq}
use Rattle.dnw_record.specs.Records.{RecordValue, data_octets}
use Rattle.dnw_message_read.specs.Headers.{flags_of}
use Rattle.dnw_base.specs.TypeCodes.{a_code, aaaa_code, any_code, axfr_code, ixfr_code, ns_code, rrsig_code}
use Rattle.dnw_message_read.specs.Messages.{MessageValue, QueryValue}
use Rattle.dnw_message_writer.specs.Replies.{field_at}
use Rattle.dnw_message_writer.specs.declared.needs.Purpose.{Purpose}
use Rattle.dnw_message_writer.specs.declared.section.Section.{Section}
use Rattle.dnw_message_writer.specs.declared.section.Section.TheVariants.{Queries, Answers, Authorities, Additionals}

-- ---- what a message is for

-- a message of which only the flags are known
abbrev pub purpose_by : ℕ → Purpose
purpose_by flags = record { flags = flags; asked = None; found = None; cut = None }

-- the type that the first question asks for
abbrev pub first_asked : Option ℕ → ℕ → Option ℕ
first_asked None query_type = Some query_type
first_asked (Some first) query_type = Some first

-- It has one more question, for this type.
abbrev pub with_asked : ℕ → Purpose → Purpose
with_asked query_type p = record p { asked = first_asked p.asked query_type }

-- Records of this type are asked for.
abbrev pub is_asked : Option ℕ → ℕ → Bool
is_asked None code = false
is_asked (Some asked) code = (code == asked) || (asked == any_code)

-- The last record of the type that is asked for: with it a chain of aliases ends (RFC 1034, section 4.3.2).
abbrev pub last_data : Option ℕ → Option RecordValue → RecordValue → Option RecordValue
last_data asked found x = if is_asked asked (type_code x.record_type) then Some x else found

-- the first record of servers of a zone
abbrev pub first_cut : Option RecordValue → RecordValue → Option RecordValue
first_cut None x = if type_code x.record_type == ns_code then Some x else None
first_cut (Some cut) x = Some cut

-- It has one more record: one of the answers may be the data that are asked for, and the first NS of the authority section may be a cut,
-- to which the message refers (RFC 1034, section 4.3.2).
abbrev pub holding : Section → RecordValue → Purpose → Purpose
holding Queries x p = p
holding Answers x p = record p { found = last_data p.asked p.found x }
holding Authorities x p = record p { cut = first_cut p.cut x }
holding Additionals x p = p

abbrev pub with_all_asked : List QueryValue → Purpose → Purpose
with_all_asked [] p = p
with_all_asked (q ∷ qs) p = with_all_asked qs (with_asked (type_code q.query_type) p)

abbrev pub holding_all : Section → List RecordValue → Purpose → Purpose
holding_all s [] p = p
holding_all s (x ∷ xs) p = holding_all s xs (holding s x p)

-- what a message is for
abbrev pub purpose_of : MessageValue → Purpose
purpose_of m =
    holding_all Authorities m.authorities (holding_all Answers m.answers (with_all_asked m.queries (purpose_by (flags_of m.header.metadata))))

-- ---- what is never cut

-- The message is a request, whatever the operation: QR, the highest bit, is clear. What is left of half an UPDATE is another UPDATE
-- (RFC 2136, section 3.4.2), and nobody who sends a request looks at its TC.
abbrev pub is_request : ℕ → Bool
is_request flags = nat_lt flags (2 ^ 15)

-- The question asks for a transfer, which is split into messages, and never cut (RFC 5936, section 2.2; RFC 1995, section 4).
abbrev pub is_transfer : Option ℕ → Bool
is_transfer None = false
is_transfer (Some asked) = (asked == axfr_code) || (asked == ixfr_code)

-- Nothing of the message is ever left out.
abbrev pub is_uncut : Purpose → Bool
is_uncut p = is_request p.flags || is_transfer p.asked

-- ---- what is required in a response

-- The operation is a query (RFC 1035, section 4.1.1). The sections of other operations are lists, and no sets that may go
-- (RFC 2136, section 2; RFC 1996, section 3).
abbrev pub is_of_query : ℕ → Bool
is_of_query flags = flags / 2 ^ 11 % 16 == 0

-- The data of an RRSIG begin with the type that it covers (RFC 4034, section 3.1).
abbrev pub covers_servers : List ℕ → Bool
covers_servers octets = nat_le 2 (length octets) && (field_at octets 0 == ns_code)

-- a server of a zone
abbrev pub is_server : RecordValue → Bool
is_server x = type_code x.record_type == ns_code

-- what signs the servers of a zone
abbrev pub signs_servers : RecordValue → Bool
signs_servers x = (type_code x.record_type == rrsig_code) && covers_servers (data_octets x)

-- A server may be left out beside data. What signs servers may too, once one of them is left out before it.
abbrev pub is_extra : Bool → RecordValue → Bool
is_extra out x = is_server x || (out && signs_servers x)

-- an address
abbrev pub is_of_address : RecordValue → Bool
is_of_address x = (type_code x.record_type == a_code) || (type_code x.record_type == aaaa_code)

-- The last labels of the name are those of the cut, but for case: it is at the cut or below it.
abbrev pub is_below : List (List ℕ) → List (List ℕ) → Bool
is_below cut name = labels_eq (lower (drop (length name - length cut) name)) (lower cut)

abbrev pub is_below_cut : Option RecordValue → RecordValue → Bool
is_below_cut None x = false
is_below_cut (Some cut) x = is_below cut.owner x.owner

abbrev pub has_data_below : Option RecordValue → Option RecordValue → Bool
has_data_below cut None = false
has_data_below cut (Some found) = is_below_cut cut found

-- The answer ends in data of the zone whose servers the message has: at their owner or below it. Else these servers are those of a cut,
-- to which the message refers, also after data that lead there: a DNAME that is asked for may be above the name of the question, and name
-- what is below a cut (RFC 6672, section 3.2).
abbrev pub is_answered : Purpose → Bool
is_answered p = has_data_below p.cut p.found

-- an address of a server at the cut or below it
abbrev pub is_glue : Option RecordValue → RecordValue → Bool
is_glue cut x = is_of_address x && is_below_cut cut x

-- Which records of a section the response to a query has to have:
-- - all answers (RFC 2181, section 9);
-- - all authorities: SOA (RFC 2308, sections 2 and 3), NSEC and NSEC3 (RFC 4035, section 3.1.3; RFC 5155, section 7.2), DS (RFC 4035,
--   section 3.1.4), the RRSIGs of these (RFC 4035, section 3.1.1), and the NS of a cut (RFC 1034, section 4.3.2); but beside data of
--   their zone NS is only extra information, and its RRSIGs go with it: those of NS that is there are required, too (RFC 4035,
--   section 3.1.1);
-- - of the additional records the addresses of servers at a cut or below it, if the message refers to the cut (RFC 9471, section 3). An
--   RRSIG alone is never required there (RFC 4035, section 3.1.1).
abbrev pub is_required_in : Section → Purpose → Bool → RecordValue → Bool
is_required_in Queries p out x = true
is_required_in Answers p out x = true
is_required_in Authorities p out x = not (is_answered p && is_extra out x)
is_required_in Additionals p out x = not (is_answered p) && is_glue p.cut x

-- The message has to have the record: TC is set if it is left out. Whether a server is left out before it.
abbrev pub is_required : Section → Purpose → Bool → RecordValue → Bool
is_required s p out x = not (is_of_query p.flags) || is_required_in s p out x

-- One of these has to be there.
abbrev pub has_required : Section → Purpose → Bool → List RecordValue → Bool
has_required s p out [] = false
has_required s p out (x ∷ xs) = is_required s p out x || has_required s p (out || is_server x) xs

-- ---- half of a set

-- what signs records, by its data: those of an RRSIG begin with the type that it covers (RFC 4034, section 3.1)
abbrev pub signs_set : RecordValue → Bool
signs_set x = (type_code x.record_type == rrsig_code) && nat_le 2 (length (data_octets x))

-- the type of the set that a record is of: that which it covers, or its own
abbrev pub set_type : RecordValue → ℕ
set_type x = if signs_set x then field_at (data_octets x) 0 else type_code x.record_type

-- They have the same owner, but for case, and the same class.
abbrev pub are_beside : RecordValue → RecordValue → Bool
are_beside x y = (class_code x.class == class_code y.class) && labels_eq (lower x.owner) (lower y.owner)

-- If the first is there and the other is left out, half of a set is there (RFC 2181, section 5): they are of one set, or the first signs
-- the set of the other. RRSIGs form no sets (RFC 4035, section 2.2), and a set may be there without what signs it (section 3.1.1).
abbrev pub halves : RecordValue → RecordValue → Bool
halves x y = not (signs_set y) && ((set_type x == set_type y) && are_beside x y)

-- They are the same record: a set has none twice (RFC 2181, section 5).
abbrev pub are_the_same : RecordValue → RecordValue → Bool
are_the_same x y = (type_code x.record_type == type_code y.record_type) && (are_beside x y && pointwise nat_eq (data_octets x) (data_octets y))

-- One of those that are there halves the set of another that is left out, and none of them is the same. Whether one does before them.
abbrev pub is_half_after : Bool → List RecordValue → RecordValue → Bool
is_half_after half [] y = half
is_half_after half (x ∷ there) y = if are_the_same x y then false else is_half_after (half || halves x y) there y

abbrev pub is_half_there : List RecordValue → RecordValue → Bool
is_half_there there y = is_half_after false there y

-- So it is with one of those that are left out; so many are there. If more pairs than this number would have to be compared, half of a set
-- is taken to be there: a message costs a time in proportion to its size.
abbrev pub has_half_in : ℕ → ℕ → List RecordValue → List RecordValue → Bool
has_half_in pairs n there [] = false
has_half_in pairs n there (y ∷ left) = nat_lt pairs n || (is_half_there there y || has_half_in (pairs - n) n there left)

abbrev pub most_pairs : ℕ
most_pairs = 4096

-- Half of a set may be there.
abbrev pub has_half : ℕ → List RecordValue → List RecordValue → Bool
has_half n there left = has_half_in most_pairs n there left

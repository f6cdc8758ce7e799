-- Headers of messages (RFC 1035, section 4.1.1; the bits AD and CD: RFC 4035, sections 3.1.6 and 3.2.2).
use Rattle.std.specs.Prelude.{◌≡◌, ℕ, ◌+◌, ◌*◌, ◌/◌, ◌%◌, ◌^◌, ◌==◌, Bool, true, false, List, ◌++◌, slice_range}
use Rattle.std.specs.Int.{w16, bit_at, from_be_bytes, from_bool, to_be_bytes}
use Rattle.dnw_base.specs.Decoder.{Decoder, HasLeft, advanced, next_bytes}
use Rattle.dnw_message_read.specs.OpCodes.{op_code, op_of_code}
use Rattle.dnw_message_read.specs.ResponseCodes.{response_code, response_of_code}
use Rattle.dnw_message_read.specs.declared.header.Header.{Header}
use Rattle.dnw_message_read.specs.declared.header.HeaderCounts.{HeaderCounts}
use Rattle.dnw_message_read.specs.declared.header.Metadata.{Metadata}
use Rattle.dnw_message_read.specs.declared.header.MessageType.{MessageType}
use Rattle.dnw_message_read.specs.declared.header.MessageType.TheVariants.{Query, Response}

-- the number of octets of a header
abbrev pub header_size : ℕ
header_size = 12

-- the field of a header at this offset: two octets, the high one first
abbrev pub header_field : List ℕ → ℕ → ℕ
header_field octets p = from_be_bytes w16 (slice_range octets p (p + 2))

-- Bit n of the flags is set. The lowest is bit 0.
abbrev pub is_set : ℕ → ℕ → Bool
is_set flags n = bit_at flags n == 1

abbrev pub type_of_bit : Bool → MessageType
type_of_bit true = Response
type_of_bit false = Query

-- what the id and the flags say; bit 6 is reserved
abbrev pub metadata_of : ℕ → ℕ → Metadata
metadata_of id flags = record {
  id = id;
  message_type = type_of_bit (is_set flags 15);
  op_code = op_of_code (flags / 2 ^ 11 % 16);
  authoritative = is_set flags 10;
  truncation = is_set flags 9;
  recursion_desired = is_set flags 8;
  recursion_available = is_set flags 7;
  authentic_data = is_set flags 5;
  checking_disabled = is_set flags 4;
  response_code = response_of_code (flags % 16);
}

abbrev pub counts_in : List ℕ → HeaderCounts
counts_in octets = record {
  queries = header_field octets 4;
  answers = header_field octets 6;
  authorities = header_field octets 8;
  additionals = header_field octets 10;
}

-- the header that twelve octets are
abbrev pub header_of : List ℕ → Header
header_of octets = record { metadata = metadata_of (header_field octets 0) (header_field octets 2); counts = counts_in octets }

-- The decoder was at a header, and is after it now.
abbrev pub TakesHeader : Decoder → Header → Decoder → Type 0
TakesHeader before header after =
    HasLeft before header_size × (header ≡ header_of (next_bytes before header_size)) × (after ≡ advanced before header_size)

-- ---- written

abbrev pub is_response : MessageType → Bool
is_response Query = false
is_response Response = true

-- bit n of the flags, as a number
abbrev pub flag : Bool → ℕ → ℕ
flag set n = from_bool set * 2 ^ n

-- the flags and the low four bits of the codes; bit 6 is zero
abbrev pub flags_of : Metadata → ℕ
flags_of m =
    flag (is_response m.message_type) 15 + op_code m.op_code % 16 * 2 ^ 11 + flag m.authoritative 10 + flag m.truncation 9
    + flag m.recursion_desired 8 + flag m.recursion_available 7 + flag m.authentic_data 5 + flag m.checking_disabled 4
    + response_code m.response_code % 16

abbrev pub counts_wire : HeaderCounts → List ℕ
counts_wire counts =
    to_be_bytes w16 counts.queries ++ (to_be_bytes w16 counts.answers
    ++ (to_be_bytes w16 counts.authorities ++ to_be_bytes w16 counts.additionals))

abbrev pub header_wire : Header → List ℕ
header_wire header = to_be_bytes w16 header.metadata.id ++ (to_be_bytes w16 (flags_of header.metadata) ++ counts_wire header.counts)

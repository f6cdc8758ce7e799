-- What follows from the definition of headers. Each is the clause of a public function, and so proved.
use Rattle.std.specs.Prelude.{◌≡◌, ℕ, ◌-◌, ◌%◌, ◌^◌, ◌<◌, List, ◌++◌, length, drop, slice_range}
use Rattle.std.specs.Int.{w16, to_be_bytes}
use Rattle.dnw_name_read.specs.ReadingLaws.{AreBytes}
use Rattle.dnw_message_read.specs.OpCodes.{op_code, op_of_code}
use Rattle.dnw_message_read.specs.ResponseCodes.{response_code, response_of_code}
use Rattle.dnw_message_read.specs.Headers.{flag, header_field, header_of, header_size, header_wire, is_set}
use Rattle.dnw_message_read.specs.declared.header.Header.{Header}

-- The numbers of a header fit their fields, as those of the code do.
abbrev pub HeaderFits : Header → Type 0
HeaderFits h =
    (h.metadata.id < 2 ^ 16) × (h.counts.queries < 2 ^ 16) × (h.counts.answers < 2 ^ 16) × (h.counts.authorities < 2 ^ 16)
    × (h.counts.additionals < 2 ^ 16)

-- with the low four bits of the codes
abbrev pub with_low_codes : Header → Header
with_low_codes h = record {
  metadata = record h.metadata {
    op_code = op_of_code (op_code h.metadata.op_code % 16);
    response_code = response_of_code (response_code h.metadata.response_code % 16);
  };
  counts = h.counts;
}

-- What is written is read as the same header, with the low four bits of the codes.
abbrev pub HeadersReadBack : Type 0
HeadersReadBack = (h : Header) → HeaderFits h → header_of (header_wire h) ≡ with_low_codes h

-- the octets of a header with bit 6 of the flags zero
abbrev pub without_reserved : List ℕ → List ℕ
without_reserved octets =
    slice_range octets 0 2 ++ (to_be_bytes w16 (header_field octets 2 - flag (is_set (header_field octets 2) 6) 6) ++ drop 4 octets)

-- What is read is written as the same octets, but for the reserved bit.
abbrev pub HeadersWriteBack : Type 0
HeadersWriteBack = (octets : List ℕ) → length octets ≡ header_size → AreBytes octets
    → header_wire (header_of octets) ≡ without_reserved octets

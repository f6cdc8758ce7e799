-- The headers of replies, and how long replies may be.
use Rattle.std.specs.Prelude.{◌≤◌, ◌<◌, ℕ, ◌+◌, ◌/◌, ◌%◌, min, Bool, if◌then◌else◌, List, [], ◌∷◌, length, slice_index}
use Rattle.std.specs.Int.{w16, from_be_bytes}
use Rattle.dns_names_wire.specs.Words.{header_size, reply_flags}
use Rattle.dns_names_wire.specs.declared.message_writer.Asked.{Asked}
use Rattle.ans_reply.specs.declared.head.ReplyHead.{ReplyHead}

-- The octets have a header, and QR is clear: nothing else gets a reply (RFC 1035, section 4.1.1).
abbrev pub IsAsking : List ℕ → Type 0
IsAsking octets = (header_size ≤ length octets) × (slice_index octets 2 < 128)

-- the number that two octets of a header are
abbrev pub header_number : List ℕ → ℕ → ℕ
header_number octets p = from_be_bytes w16 (slice_index octets p ∷ slice_index octets (p + 1) ∷ [])

-- the operation of a request, of which the header has four bits (RFC 1035, section 4.1.1)
abbrev pub operation_of : List ℕ → ℕ
operation_of request = slice_index request 2 / 8 % 16

-- AA, the sixth bit of the flags (RFC 1035, section 4.1.1)
abbrev pub own_flags : Bool → ℕ
own_flags authoritative = if authoritative then 1024 else 0

-- The operation, RD and CD are those of the request; AA is the server's, which has no RA and no AD.
abbrev pub head : List ℕ → Bool → ReplyHead
head request authoritative = record {
  id = header_number request 0;
  flags = reply_flags (header_number request 2) (own_flags authoritative) 0;
}

-- the greatest size of a reply, in octets
abbrev pub size_limit : Asked → Bool → ℕ → ℕ
size_limit asked datagram most = if datagram then min asked.max_payload most else most

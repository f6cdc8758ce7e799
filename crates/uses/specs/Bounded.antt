-- Replies of at most 512 bytes.
use Rattle.std.specs.Prelude.{◌≡◌, ℕ, ◌/◌, ◌%◌, ◌≤◌, List, [], ◌∷◌, length, nat_lt, if◌then◌else◌}
use Rattle.dns_names_wire.specs.Words.{Encoder}

-- the most bytes of a message over UDP without EDNS (RFC 1035, section 4.2.1)
abbrev pub max_reply : ℕ
max_reply = 512

-- RFC 1035, section 4.1.1: an authoritative reply to one question, with so many answers. The TC bit says that there are more.
abbrev pub header : ℕ → ℕ → ℕ → List ℕ
header id count answers =
    id / 256 ∷ id % 256 ∷ (if nat_lt count answers then 0x86 else 0x84) ∷ 0 ∷ 0 ∷ 1 ∷ count / 256 ∷ count % 256 ∷ 0 ∷ 0 ∷ 0 ∷ 0 ∷ []

-- The encoder is at the end of a header and what follows it, of at most so many bytes, and will write no more.
abbrev pub HasHeader : Encoder → Type 0
HasHeader v = (v.offset ≡ length v.bytes) × (12 ≤ length v.bytes) × (length v.bytes ≤ max_reply) × (v.max_size ≡ max_reply)

-- A write, also one that fails, removes no byte and leaves the maximum.
abbrev pub Keeps : Encoder → Encoder → Type 0
Keeps v w = (length v.bytes ≤ length w.bytes) × (w.max_size ≡ v.max_size)

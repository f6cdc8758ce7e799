-- Records in messages, as many as fit.
use Rattle.std.specs.Prelude.{◌≡◌, ℕ, List, [], length, take}
use Rattle.dns_names_wire.specs.Words.{CandidatesPrecede, EmitsRecord, Encoder, InTurn, WireRecord, fresh}

-- The encoder is at the end of its buffer, with every candidate before it: what is refused then leaves nothing.
abbrev pub IsReady : Encoder → Type 0
IsReady v = (v.offset ≡ length v.bytes) × CandidatesPrecede v

-- The message is what a new encoder with this maximum writes of the first records, so many.
abbrev pub HoldsFirst : ℕ → List WireRecord → ℕ → List ℕ → Type 0
HoldsFirst most records count message =
    (w : Encoder) × InTurn EmitsRecord (record (fresh [] 0) { max_size = most }) (take count records) w × (message ≡ w.bytes)

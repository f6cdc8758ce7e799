-- Messages that are written and read.
use Rattle.std.specs.Prelude.{ℕ, List, [], ◌∷◌, ◌≡◌, ◌<◌, ◌⊎◌, length}
use Rattle.std.specs.Borrow.{Bor}
use Rattle.dns_names_wire.specs.Words.{AddedItems, AddsItem, Answers, BeginsMessage, FailsToAdd, HasItems, HeaderCounts, MessageAt, MessageValue, Queries}
use Rattle.dns_names_wire.specs.Words.{WriterState, no_items, question_form, question_past, record_past, slot_of, with_question, with_records}
use Rattle.dns_names_wire.specs.declared.message_writer.WriteError.{WriteError}
use Rattle.dns_names_wire.specs.declared.message_writer.WriteError.TheVariants.{NoRoom}
use Rattle.dns_names_wire.specs.declared.message_writer.Piece.TheVariants.{Octets}

-- The question for the addresses of a name, and the answer that it has this one, for an hour.
abbrev pub response : List (List ℕ) → Bor (List ℕ) → AddedItems
response name address =
    with_records Answers (record { owner = name; record_type = 1; class = 1; ttl = 3600; pieces = Octets address ∷ [] } ∷ [])
    (with_question (record { name = name; query_type = 1; class = 1 }) no_items)

-- The octets begin with a message that is read as this response of an authority (QR and AA are set), and these are its counts.
abbrev pub IsResponse : ℕ → List (List ℕ) → Bor (List ℕ) → List ℕ → HeaderCounts → Type 0
IsResponse id name address octets counts =
    (x : MessageValue) × (k : ℕ) × MessageAt octets x k × HasItems id 33792 (response name address) x × (counts ≡ x.header.counts)

-- There is no room for the header, for the question, or for the answer, in the octets of a message over UDP or of the buffer.
abbrev pub FailsResponse : ℕ → List (List ℕ) → Bor (List ℕ) → List ℕ → WriteError → Type 0
FailsResponse id name address old error =
    ((error ≡ NoRoom) × (length old < 12))
    ⊎ ((w : WriterState) × (begun : List ℕ) × BeginsMessage id 33792 512 old w begun
    × (FailsToAdd Queries (question_past slot_of name) w begun error
    ⊎ ((v : WriterState) × (asked : List ℕ)
    × AddsItem Queries (question_form slot_of name 1 1) w begun v asked
    × FailsToAdd Answers (record_past slot_of name 1 1 3600 (Octets address ∷ [])) v asked error)))

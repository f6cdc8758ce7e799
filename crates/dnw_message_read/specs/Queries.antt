-- Questions at a decoder (RFC 1035, section 4.1.2): the name, then two octets of type and two of class.
use Rattle.std.specs.Prelude.{◌≡◌, ℕ}
use Rattle.dnw_base.specs.declared.error.DecodeError.{DecodeError}
use Rattle.dnw_base.specs.Decoder.{Decoder}
use Rattle.dnw_message_read.specs.Messages.{FailsItem, Item, ItemAt, QueryValue, query_of, question_rest}

-- The decoder was at a question, and is after it now.
abbrev pub TakesQuery : Decoder → QueryValue → Decoder → Type 0
TakesQuery before q after =
    (x : Item) × (e : ℕ) × (k : ℕ) × ItemAt question_rest before.bytes before.index x e k × (q ≡ query_of before.bytes x)
    × (after ≡ record { bytes = before.bytes; index = e })

-- The decoder is at no question.
abbrev pub FailsQuery : Decoder → DecodeError → Type 0
FailsQuery before error = FailsItem question_rest before.bytes before.index error

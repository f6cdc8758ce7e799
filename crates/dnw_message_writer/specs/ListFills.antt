-- How records of a list are added to a message, as many as have room. So a transfer is split into messages (RFC 5936, section 2.2).
use Rattle.std.specs.Prelude.{◌≡◌, ◌<◌, ◌⊎◌, ℕ, List, length, take, Result, MatchResult}
use Rattle.dnw_base.specs.Decoder.{Decoder}
use Rattle.dnw_record.specs.Records.{RecordValue}
use Rattle.dnw_message_writer.specs.declared.section.Section.{Section}
use Rattle.dnw_message_writer.specs.declared.state.WriterState.{WriterState}
use Rattle.dnw_message_writer.specs.ListResults.{StaysAsItWas, at_offset}
use Rattle.dnw_message_writer.specs.declared.list.ListError.{ListError}
use Rattle.dnw_message_writer.specs.declared.list.ListError.TheVariants as why
use Rattle.dnw_message_writer.specs.Lists.{BeginsWithOctet, IsOctetOf, LacksListed, TakesListed}
use Rattle.dnw_message_writer.specs.ListEnds.{AddsListed, FailsToAddListed}

-- The next item of a list is a record, and is added to its section.
abbrev pub AddsNext : Decoder → WriterState → List ℕ → Decoder → WriterState → List ℕ → Type 0
AddsNext d w m after v n =
    (octet : ℕ) × (s : Section) × (x : RecordValue) × IsOctetOf octet s × TakesListed d octet x after × AddsListed s x w m v n

-- It is not, for this reason: its octet is that of no section of records, or no record is there, or the record cannot be added.
abbrev pub FailsToAddNext : Decoder → WriterState → List ℕ → ListError → Type 0
FailsToAddNext d w m failure =
    ((octet : ℕ) × BeginsWithOctet d octet × ((s : Section) → IsOctetOf octet s → ⊥) × (failure ≡ why.BadItem))
    ⊎ (LacksListed d × (failure ≡ why.BadItem))
    ⊎ ((octet : ℕ) × (s : Section) × (x : RecordValue) × (after : Decoder) × IsOctetOf octet s × TakesListed d octet x after
    × FailsToAddListed s x w m failure)

-- Records of a list are added in turn.
pub data AddsInTurn (start : Decoder) (w : WriterState) (m : List ℕ) : Decoder → WriterState → List ℕ → Type 0 where
  none : AddsInTurn start w m start w m
  one_more : (d after : Decoder) (v u : WriterState) (n o : List ℕ) → AddsInTurn start w m d v n → AddsNext d v n after u o
      → AddsInTurn start w m after u o

-- Records are added from an offset of the list on, up to the first that is not: all, or one at least. The octets after the message do
-- not matter.
pub record FillsFrom (list : List ℕ) (start : ℕ) (w : WriterState) (m : List ℕ) (v : WriterState) (n : List ℕ) (next : ℕ) : Type 0 where
  pub d : Decoder
  pub whole : List ℕ
  pub adds : AddsInTurn (at_offset list start) w m d v whole
  pub same : take v.end n ≡ take v.end whole
  pub next_is : next ≡ d.index
  pub ends : (next ≡ length list) ⊎ ((start < next) × (failure : ListError) × FailsToAddNext d v whole failure)

-- The first is not, for this reason, and the message is unchanged.
abbrev pub FailsToFill : List ℕ → ℕ → WriterState → List ℕ → ListError → Type 0
FailsToFill list start w m failure =
    ((length list < start) × (failure ≡ why.BadItem)) ⊎ FailsToAddNext (at_offset list start) w m failure

abbrev pub FillsOr : List ℕ → ℕ → WriterState → List ℕ → WriterState → List ℕ → Result ℕ ListError → Type 0
FillsOr list start before old after new result =
    MatchResult result (FillsFrom list start before old after new)
    (λ failure. FailsToFill list start before old failure × StaysAsItWas before old after new)

-- How the functions for C write a message item by item, and why one adds nothing. What octets an item is written as, and when it has
-- no room, is said by the definitions of `dnw_message_writer`.
use Rattle.std.specs.Prelude.{◌≡◌, ◌<◌, ◌≤◌, ◌⊎◌, ℕ, suc, List, length, Result, MatchResult}
use Rattle.dnw_record.specs.DataPieces.{IsData}
use Rattle.dnw_c_base.specs.WireForms.{IsFormOf, IsNoForm}
use Rattle.dnw_c_base.specs.declared.failure.Failure.{Failure}
use Rattle.dnw_c_base.specs.declared.failure.Failure.TheVariants as why
use Rattle.dnw_data.specs.Table.{fields_of}
use Rattle.dnw_message_read.specs.Headers.{header_size}
use Rattle.dnw_message_writer.specs.Data.{AreOfData}
use Rattle.dnw_message_writer.specs.Hints.{slot_of}
use Rattle.dnw_message_writer.specs.Items.{ItemPast, question_form, question_past, record_form, record_past}
use Rattle.dnw_message_writer.specs.ListResults.{StaysAsItWas}
use Rattle.dnw_message_writer.specs.Sections.{rank}
use Rattle.dnw_message_writer.specs.States.{AddsItem, AddsLastItem, BeginsMessage, FailsToAdd, for_last}
use Rattle.dnw_message_writer.specs.declared.pieces.Piece.{Piece}
use Rattle.dnw_message_writer.specs.declared.section.Section.{Section}
use Rattle.dnw_message_writer.specs.declared.section.Section.TheVariants as Sections
use Rattle.dnw_message_writer.specs.declared.section.WriteError.{WriteError}
use Rattle.dnw_message_writer.specs.declared.section.WriteError.TheVariants.{CutOption, NoMessage, NoRoom, OutOfOrder, SecondOpt}
use Rattle.dnw_message_writer.specs.declared.state.WriterState.{WriterState}

-- ---- what a call changes

-- which failure stands for why an item is not added
abbrev pub of_write : WriteError → Failure
of_write NoMessage = why.MessageCut
of_write OutOfOrder = why.BadItem
of_write NoRoom = why.MessageTooLong
of_write SecondOpt = why.DuplicateEdns
of_write CutOption = why.CutOption

-- Something is added, or it is not for such a reason, and the message is unchanged.
abbrev pub AddsOr : (WriterState → List ℕ → WriterState → List ℕ → Type 0) → (WriterState → List ℕ → Failure → Type 0)
    → WriterState → List ℕ → WriterState → List ℕ → Result (Unit {0}) Failure → Type 0
AddsOr Adds Fails before old after new result =
    MatchResult result (λ _. Adds before old after new) (λ failure. Fails before old failure × StaysAsItWas before old after new)

-- An item that has a form is not added to a section, and that is why.
abbrev pub FailsToAddItem : Section → ItemPast → WriterState → List ℕ → Failure → Type 0
FailsToAddItem s past before old failure = (error : WriteError) × FailsToAdd s past before old error × (failure ≡ of_write error)

-- ---- the header

-- A message begins, or the buffer or the maximum is too short for its header.
abbrev pub BeginsOr : ℕ → ℕ → ℕ → WriterState → List ℕ → WriterState → List ℕ → Result (Unit {0}) Failure → Type 0
BeginsOr id flags max_size before old after new result =
    MatchResult result (λ _. BeginsMessage id flags max_size old after new)
    (λ failure. (((length old < header_size) × (failure ≡ why.NoRoom))
    ⊎ ((header_size ≤ length old) × (max_size < header_size) × (failure ≡ why.MessageTooLong))) × (after ≡ before) × (new ≡ old))

-- ---- questions

-- A question is added: a name, which is given by its wire form, a type and a class.
abbrev pub AddsQuestionOf : List ℕ → ℕ → ℕ → WriterState → List ℕ → WriterState → List ℕ → Type 0
AddsQuestionOf form query_type class before old after new =
    (name : List (List ℕ)) × IsFormOf form name × AddsItem Sections.Queries (question_form slot_of name query_type class) before old after new

abbrev pub FailsToAddQuestion : List ℕ → WriterState → List ℕ → Failure → Type 0
FailsToAddQuestion form before old failure =
    IsNoForm form failure
    ⊎ ((name : List (List ℕ)) × IsFormOf form name
    × FailsToAddItem Sections.Queries (question_past slot_of name) before old failure)

-- ---- records

-- The number is that of a section of records: 2 for the answers, 3 for the authorities and 4 for the additional records.
abbrev pub IsSectionNumber : ℕ → Section → Type 0
IsSectionNumber number s = (number ≡ suc (rank s)) × (2 ≤ number)

abbrev pub IsNoNumber : ℕ → Type 0
IsNoNumber number = (number < 2) ⊎ (4 < number)

-- The octets are data of a class and a type, and these are their pieces.
abbrev pub HasPiecesOf : ℕ → ℕ → List ℕ → List Piece → Type 0
HasPiecesOf class record_type octets pieces = AreOfData (fields_of class record_type octets) octets pieces

abbrev pub IsWholeData : ℕ → ℕ → List ℕ → Type 0
IsWholeData class record_type octets = IsData (fields_of class record_type octets) octets

-- A record with this owner and these data is added to a section.
abbrev pub AddsOwned : Section → List (List ℕ) → ℕ → ℕ → ℕ → List ℕ → WriterState → List ℕ → WriterState → List ℕ → Type 0
AddsOwned s owner record_type class ttl octets before old after new =
    (pieces : List Piece) × HasPiecesOf class record_type octets pieces
    × AddsItem s (record_form slot_of owner record_type class ttl pieces) before old after new

-- It is not: the data are none of its class and type, or no item may follow, or it goes past the limit.
abbrev pub FailsToAddOwned : Section → List (List ℕ) → ℕ → ℕ → ℕ → List ℕ → WriterState → List ℕ → Failure → Type 0
FailsToAddOwned s owner record_type class ttl octets before old failure =
    ((IsWholeData class record_type octets → ⊥) × (failure ≡ why.BadData))
    ⊎ ((pieces : List Piece) × HasPiecesOf class record_type octets pieces
    × FailsToAddItem s (record_past slot_of owner record_type class ttl pieces) before old failure)

-- What is given for a record is one: its owner's wire form, and data of its class and type.
pub record IsGiven (form : List ℕ) (record_type class : ℕ) (octets : List ℕ) (owner : List (List ℕ)) (pieces : List Piece) : Type 0 where
  pub owned : IsFormOf form owner
  pub typed : HasPiecesOf class record_type octets pieces

-- It is none, and that is why.
abbrev pub IsNotGiven : List ℕ → ℕ → ℕ → List ℕ → Failure → Type 0
IsNotGiven form record_type class octets failure =
    IsNoForm form failure
    ⊎ ((owner : List (List ℕ)) × IsFormOf form owner × (IsWholeData class record_type octets → ⊥) × (failure ≡ why.BadData))

-- A record that is given is added to a section.
abbrev pub AddsGiven : Section → List ℕ → ℕ → ℕ → ℕ → List ℕ → WriterState → List ℕ → WriterState → List ℕ → Type 0
AddsGiven s form record_type class ttl octets before old after new =
    (owner : List (List ℕ)) × (pieces : List Piece) × IsGiven form record_type class octets owner pieces
    × AddsItem s (record_form slot_of owner record_type class ttl pieces) before old after new

abbrev pub FailsToAddGiven : Section → List ℕ → ℕ → ℕ → ℕ → List ℕ → WriterState → List ℕ → Failure → Type 0
FailsToAddGiven s form record_type class ttl octets before old failure =
    IsNotGiven form record_type class octets failure
    ⊎ ((owner : List (List ℕ)) × (pieces : List Piece) × IsGiven form record_type class octets owner pieces
    × FailsToAddItem s (record_past slot_of owner record_type class ttl pieces) before old failure)

-- So it is, if the section is given by its number.
abbrev pub AddsRecord : ℕ → List ℕ → ℕ → ℕ → ℕ → List ℕ → WriterState → List ℕ → WriterState → List ℕ → Type 0
AddsRecord number form record_type class ttl octets before old after new =
    (s : Section) × IsSectionNumber number s × AddsGiven s form record_type class ttl octets before old after new

abbrev pub FailsToAddRecord : ℕ → List ℕ → ℕ → ℕ → ℕ → List ℕ → WriterState → List ℕ → Failure → Type 0
FailsToAddRecord number form record_type class ttl octets before old failure =
    (IsNoNumber number × (failure ≡ why.BadItem))
    ⊎ ((s : Section) × IsSectionNumber number s × FailsToAddGiven s form record_type class ttl octets before old failure)

-- ---- the last record

-- A record is added to the additional section, with its names whole and with so many of the octets that are held back, and none may
-- follow.
abbrev pub AddsLastRecord : ℕ → List ℕ → ℕ → ℕ → ℕ → List ℕ → WriterState → List ℕ → WriterState → List ℕ → Type 0
AddsLastRecord held form record_type class ttl octets before old after new =
    (owner : List (List ℕ)) × (pieces : List Piece) × IsGiven form record_type class octets owner pieces
    × AddsLastItem (record_form slot_of owner record_type class ttl pieces) (for_last held before) old after new

abbrev pub FailsToAddLast : ℕ → List ℕ → ℕ → ℕ → ℕ → List ℕ → WriterState → List ℕ → Failure → Type 0
FailsToAddLast held form record_type class ttl octets before old failure =
    FailsToAddGiven Sections.Additionals form record_type class ttl octets (for_last held before) old failure

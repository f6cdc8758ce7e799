-- How a query begins (RFC 1035, section 4.1.1; RFC 6891, section 6.1).
use Rattle.std.specs.Prelude.{◌≡◌, ◌<◌, ◌⊎◌, ℕ, Bool, Option, Some, None, List, [], length, if◌then◌else◌}
use Rattle.dnw_base.specs.TypeCodes.{opt_code}
use Rattle.dnw_message_writer.specs.Hints.{slot_of}
use Rattle.dnw_message_writer.specs.Items.{question_form, question_past}
use Rattle.dnw_message_writer.specs.Listed.{data_form, data_past}
use Rattle.dnw_message_writer.specs.Standing.{first_item}
use Rattle.dnw_message_writer.specs.States.{AddsItem, BeginsMessage, FailsToAdd}
use Rattle.dnw_message_writer.specs.declared.section.Section.TheVariants.{Queries, Additionals}
use Rattle.dnw_message_writer.specs.declared.section.WriteError.{WriteError}
use Rattle.dnw_message_writer.specs.declared.section.WriteError.TheVariants.{NoRoom}
use Rattle.dnw_message_writer.specs.declared.state.WriterState.{WriterState}

-- RD, if recursion is desired; the other flags are clear
abbrev pub query_flags : Bool → ℕ
query_flags recursion_desired = if recursion_desired then 256 else 0

-- An OPT record without options says the size of the messages that the sender accepts, if there is one to say.
abbrev pub AddsSize : Option ℕ → WriterState → List ℕ → WriterState → List ℕ → Type 0
AddsSize None w old after new = (after ≡ w) × (new ≡ old)
AddsSize (Some size) w old after new = AddsItem Additionals (data_form [] opt_code size 0 []) w old after new

-- It has no room.
abbrev pub FailsToAddSize : Option ℕ → WriterState → List ℕ → WriteError → Type 0
FailsToAddSize None w m e = ⊥
FailsToAddSize (Some size) w m e = FailsToAdd Additionals (data_past [] opt_code size 0 []) w m e

module _ (id flags max_size : ℕ) (name : List (List ℕ)) (query_type class : ℕ) (size : Option ℕ) (old : List ℕ) where
  -- A message begins, with a question, and says the size.
  abbrev pub BeginsQuery : WriterState → List ℕ → Type 0
  BeginsQuery after new =
      (w : WriterState) × (begun : List ℕ) × BeginsMessage id flags max_size old w begun
      × (v : WriterState) × (asked : List ℕ)
      × AddsItem Queries (question_form slot_of name query_type class) w begun v asked
      × AddsSize size v asked after new

  -- There is no room for the header, for the question, or for the size.
  abbrev pub FailsToQuery : WriteError → Type 0
  FailsToQuery e =
      (((length old < first_item) ⊎ (max_size < first_item)) × (e ≡ NoRoom))
      ⊎ ((w : WriterState) × (begun : List ℕ) × BeginsMessage id flags max_size old w begun
      × (FailsToAdd Queries (question_past slot_of name) w begun e
      ⊎ ((v : WriterState) × (asked : List ℕ)
      × AddsItem Queries (question_form slot_of name query_type class) w begun v asked
      × FailsToAddSize size v asked e)))

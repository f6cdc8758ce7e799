-- Records that are added in turn: which octets stay.
use Rattle.std.specs.Prelude.{◌≡◌, ℕ, ◌+◌, ◌≤◌, ◌⊎◌, List, [], ◌∷◌, length, slice_index, take}
use Rattle.dnw_message_writer.specs.CompressedNames.{put_at}
use Rattle.dnw_message_writer.specs.Items.{ItemForm, ItemPast}
use Rattle.dnw_message_writer.specs.Sections.{offset_of_count}
use Rattle.dnw_message_writer.specs.Sets.{AddsSet, FailsToAddSet}
use Rattle.dnw_message_writer.specs.declared.section.Section.{Section}
use Rattle.dnw_message_writer.specs.declared.section.WriteError.{WriteError}
use Rattle.dnw_message_writer.specs.declared.set.Data.{Data}
use Rattle.dnw_message_writer.specs.declared.state.WriterState.{WriterState}

-- two octets at an offset
abbrev pub count_octets : List ℕ → ℕ → List ℕ
count_octets m p = slice_index m p ∷ slice_index m (p + 1) ∷ []

-- The octets are unchanged, but for the count of the section.
abbrev pub KeptCount : Section → List ℕ → List ℕ → Type 0
KeptCount s before now =
    (now ≡ before)
    ⊎ ((12 ≤ length before) × (count : List ℕ) × (length count ≡ 2) × (now ≡ put_at before (offset_of_count s) count))

-- The first data are added, and these are left.
pub record Turned (s : Section) (form : Data → ItemForm) (past : Data → ItemPast) (first : WriterState) (old : List ℕ)
    (set : List Data) (w : WriterState) (m : List ℕ) (left : List Data) : Type 0 where
  pub goes_on : (after : WriterState) (new : List ℕ) → AddsSet s form left w m after new → AddsSet s form set first old after new
  pub fails : (e : WriteError) → FailsToAddSet s form past left w m e → FailsToAddSet s form past set first old e
  pub further : first.end ≤ w.end
  pub kept : KeptCount s (take first.end old) (take first.end m)
  pub size : length m ≡ length old
  pub whole : (12 ≤ first.end) ⊎ (w.end ≡ first.end)

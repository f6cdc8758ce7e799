-- Sets of records: each is added after those before it, or none is (RFC 2181, section 5).
use Rattle.std.specs.Prelude.{◌≡◌, ℕ, ◌+◌, ◌/◌, ◌%◌, ◌⊎◌, ◌&&◌, nat_eq, nat_le, if◌then◌else◌, List, [], ◌∷◌, length, slice_index, slice_set, take}
use Rattle.dnw_message_writer.specs.Items.{ItemForm, ItemPast}
use Rattle.dnw_message_writer.specs.Standing.{first_item}
use Rattle.dnw_message_writer.specs.States.{AddsItem, FailsToAdd}
use Rattle.dnw_message_writer.specs.declared.section.Section.{Section}
use Rattle.dnw_message_writer.specs.declared.section.WriteError.{WriteError}
use Rattle.dnw_message_writer.specs.declared.state.WriterState.{WriterState}

module _ {D : Type 0} (s : Section) (form : D → ItemForm) where
  abbrev pub AddsSet : List D → WriterState → List ℕ → WriterState → List ℕ → Type 0
  AddsSet [] w old after new = (after ≡ w) × (new ≡ old)
  AddsSet (d ∷ ds) w old after new =
      (v : WriterState) × (between : List ℕ) × AddsItem s (form d) w old v between × AddsSet ds v between after new

  -- The first that is not added says why.
  abbrev pub FailsToAddSet : (D → ItemPast) → List D → WriterState → List ℕ → WriteError → Type 0
  FailsToAddSet past [] w m e = ⊥
  FailsToAddSet past (d ∷ ds) w m e =
      FailsToAdd s (past d) w m e
      ⊎ ((v : WriterState) × (between : List ℕ) × AddsItem s (form d) w m v between × FailsToAddSet past ds v between e)

-- the message whose header says that something is missing (TC, bit 1 of its third octet; RFC 2181, section 9)
abbrev pub cut_off : List ℕ → List ℕ
cut_off m = if nat_le first_item (length m) && nat_eq (slice_index m 2 / 2 % 2) 0 then slice_set m 2 (slice_index m 2 + 2) else m

-- What the message has up to its end is unchanged, but TC is set.
abbrev pub CutsOff : ℕ → List ℕ → List ℕ → Type 0
CutsOff end old new = (between : List ℕ) × (take end between ≡ take end old) × (new ≡ cut_off between)

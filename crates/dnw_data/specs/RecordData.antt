-- Which octets are the data of a record, if the record gives their number.
use Rattle.std.specs.Prelude.{◌≡◌, ℕ, ◌≤◌, true, false}
use Rattle.dnw_base.specs.Decoder.{Decoder, HasLeft, next_bytes, advanced}
use Rattle.dnw_base.specs.declared.error.DecodeError.{DecodeError}
use Rattle.dnw_base.specs.declared.error.DecodeError.TheVariants.{InsufficientBytes, NsecBitmapOutOfBounds, Memory}
use Rattle.dnw_data.specs.TypeSets.{TypeSet, IsSetOf, windows_of, in_bounds, bitmap_types}

-- the error is one of these, or memory ran out
abbrev pub FailsOrRunsOut : (DecodeError → Type 0) → Type 0 → DecodeError → Type 0
FailsOrRunsOut Fails RunsOut Memory = RunsOut
FailsOrRunsOut Fails RunsOut error = Fails error

-- the octets are a bitmap in bounds
abbrev pub HasBitmap : ℕ → Decoder → Type 0
HasBitmap length before = HasLeft before length × (in_bounds (windows_of (next_bytes before length)) ≡ true)

-- the set of the types that the bitmap lists, which keeps its bytes
abbrev pub TakesTypeSet : ℕ → Decoder → TypeSet → Decoder → Type 0
TakesTypeSet length before set after =
    HasBitmap length before × IsSetOf (bitmap_types (next_bytes before length)) set.types
    × (set.encoding ≡ next_bytes before length) × (after ≡ advanced before length)

abbrev pub FailsTypeSet : ℕ → Decoder → DecodeError → Type 0
FailsTypeSet length before InsufficientBytes = ¬ (HasLeft before length)
FailsTypeSet length before NsecBitmapOutOfBounds =
    HasLeft before length × (in_bounds (windows_of (next_bytes before length)) ≡ false)
FailsTypeSet length before error = ⊥

-- An empty bitmap needs no memory.
abbrev pub TypeSetRunsOut : ℕ → Decoder → Type 0
TypeSetRunsOut length before = HasBitmap length before × (1 ≤ length)

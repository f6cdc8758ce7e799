-- A text that is appended in part is taken back.
use Rattle.std.proofs.Common.{◌≡◌, ℕ, Bool, true, false, List, length, take}
use Rattle.std.specs.String.Boundary.{IsSplitPoint}
use Rattle.dnw_zone_values.proofs.Steps.{may_cut, cut_off}
use Rattle.dnw_zone_data.specs.Appending.{Appended, AppendedInPart}

-- it may be cut off
pub may_take_back : (Is : List ℕ → Type 0) (old new : List ℕ) (n : ℕ) (whole : Bool) → whole ≡ false → AppendedInPart Is old new whole → n ≡ length old
    → IsSplitPoint new n
may_take_back Is old new n true e part at = absurd cc
may_take_back Is old new n false e part at = may_cut old new n part.1 at

-- and then nothing is appended
pub taken_back : (Is : List ℕ → Type 0) (old new kept : List ℕ) (n : ℕ) (whole : Bool) → whole ≡ false → AppendedInPart Is old new whole → n ≡ length old
    → kept ≡ take n new → Appended Is old kept whole
taken_back Is old new kept n true e part at cut = absurd cc
taken_back Is old new kept n false e part at cut = (part.0, cut_off old new kept n part.1 at cut)

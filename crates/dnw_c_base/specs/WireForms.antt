-- Octets that are given as the wire form of a name.
use Rattle.std.specs.Prelude.{◌≡◌, ◌≢◌, ◌⊎◌, ℕ, List, length}
use Rattle.dnw_name_read.specs.Reading.{NameAt}
use Rattle.dnw_c_base.specs.Offsets.{HasNoName}
use Rattle.dnw_c_base.specs.declared.failure.Failure.{Failure}
use Rattle.dnw_c_base.specs.declared.failure.Failure.TheVariants.{BytesLeft}

-- The octets are the wire form of these labels, whole.
abbrev pub IsFormOf : List ℕ → List (List ℕ) → Type 0
IsFormOf form labels = (k : ℕ) × NameAt form 0 labels (length form) k

-- The octets are no wire form: no name is at their start, or octets follow after it.
abbrev pub IsNoForm : List ℕ → Failure → Type 0
IsNoForm form failure =
    HasNoName form 0 failure
    ⊎ ((labels : List (List ℕ)) × (end : ℕ) × (k : ℕ) × NameAt form 0 labels end k × (end ≢ length form) × (failure ≡ BytesLeft))

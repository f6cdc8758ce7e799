-- What follows from the definitions of reading. Each is a clause of a public function, and so proved.
use Rattle.std.specs.Prelude.{◌≡◌, ℕ, ◌+◌, ◌<◌, ◌≤◌, min, Option, Some, None, List, ◌++◌, length, slice_index, ◌⊎◌}
use Rattle.dnw_base.specs.declared.error.DecodeError.{DecodeError}
use Rattle.dnw_base.specs.Limits.{max_labels, pointer_offsets}
use Rattle.dnw_base.specs.Names.{AreLabels, encoded_size, wire}
use Rattle.dnw_name_read.specs.Reading.{Reads, NameAt, FaultAt}

-- At every offset of every message there is a name, or else an error with which reading stops.
abbrev pub NameOrFault : Type 0
NameOrFault = (b : List ℕ) (p : ℕ)
    → ((ls : List (List ℕ)) × (e : ℕ) × (k : ℕ) × NameAt b p ls e k)
    ⊎ ((error : DecodeError) × (k : ℕ) × (j : ℕ) × FaultAt b p error k j)

-- never both
abbrev pub NotBoth : Type 0
NotBoth = (b : List ℕ) (p : ℕ) (ls : List (List ℕ)) (e k : ℕ) (error : DecodeError) (followed found : ℕ)
    → NameAt b p ls e k → FaultAt b p error followed found → ⊥

-- the labels, the end and the count of pointers are unique
abbrev pub OneName : Type 0
OneName = (b : List ℕ) (p : ℕ) (ls other : List (List ℕ)) (e other_e k other_k : ℕ)
    → NameAt b p ls e k → NameAt b p other other_e other_k → (ls ≡ other) × (e ≡ other_e) × (k ≡ other_k)

-- and so are the error and the counts
abbrev pub OneFault : Type 0
OneFault = (b : List ℕ) (p : ℕ) (error other : DecodeError) (k other_k j other_j : ℕ)
    → FaultAt b p error k j → FaultAt b p other other_k other_j → (error ≡ other) × (k ≡ other_k) × (j ≡ other_j)

-- The labels of a wire form are read where it is, whatever is before and after it.
abbrev pub ReadsBack : Type 0
ReadsBack = (before after : List ℕ) (ls : List (List ℕ)) → AreLabels ls
    → NameAt (before ++ wire ls ++ after) (length before) ls (length before + encoded_size ls) 0

-- A name is still read if bytes follow.
abbrev pub StandsBefore : Type 0
StandsBefore = (b more : List ℕ) (p s : ℕ) (limit : Option ℕ) (ls : List (List ℕ)) (e k : ℕ)
    → Reads b p s limit ls e k → Reads (b ++ more) p s limit ls e k

-- the second limit allows what the first does
abbrev pub IsNoTighter : Option ℕ → Option ℕ → Type 0
IsNoTighter limit None = Unit {0}
IsNoTighter None (Some larger) = ⊥
IsNoTighter (Some limit) (Some larger) = limit ≤ larger

-- A name is still read if its segment's start or its limit grows.
abbrev pub StandsWider : Type 0
StandsWider = (b : List ℕ) (p s t : ℕ) (limit wider : Option ℕ) (ls : List (List ℕ)) (e k : ℕ)
    → s ≤ t → IsNoTighter limit wider → Reads b p s limit ls e k → Reads b p t wider ls e k

abbrev pub AreBytes : List ℕ → Type 0
AreBytes b = (i : ℕ) → slice_index b i < 256

-- A name takes few steps: at most 127 labels, and at most min(start, 16384) pointers.
abbrev pub NameSteps : Type 0
NameSteps = (b : List ℕ) (p : ℕ) (ls : List (List ℕ)) (e k : ℕ) → AreBytes b
    → NameAt b p ls e k → (k ≤ min p pointer_offsets) × (length ls ≤ max_labels)

-- So does an error: the label that makes the name too long counts too.
abbrev pub FaultSteps : Type 0
FaultSteps = (b : List ℕ) (p : ℕ) (error : DecodeError) (k j : ℕ) → AreBytes b
    → FaultAt b p error k j → (k ≤ min p pointer_offsets) × (j ≤ max_labels + 1)

-- A name's own octets lie within the message, and the labels that are read are labels.
abbrev pub OwnOctets : Type 0
OwnOctets = (b : List ℕ) (p : ℕ) (ls : List (List ℕ)) (e k : ℕ)
    → NameAt b p ls e k → (p < e) × (e ≤ length b) × AreLabels ls

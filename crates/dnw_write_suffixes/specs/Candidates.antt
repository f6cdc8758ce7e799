-- Candidates for compression: which there are, and which of them a pointer may stand for (RFC 1035, section 4.1.4).
use Rattle.std.specs.Prelude.{◌≡◌, ◌≢◌, ℕ, ◌+◌, ◌≤◌, nat_lt, List, [], ◌∷◌, ◌++◌, length, filter, Option, Some, None}
use Rattle.std.specs.List.{AllByRecursion}
use Rattle.dnw_base.specs.Names.{labels_wire}
use Rattle.dnw_name_read.specs.Reading.{NameAt}

-- A candidate: an offset of the message where labels were written, and these labels as they are there, each after its
-- length octet, without a closing zero.
abbrev pub Candidate : Type 0
Candidate = ℕ × List ℕ

-- the candidates before this offset
abbrev pub candidates_before : ℕ → List Candidate → List Candidate
candidates_before offset candidates = filter (λ c. nat_lt c.0 offset) candidates

-- ---- by their bytes

-- The first candidate with these bytes is at the offset.
pub record IsFirstWith (labels : List ℕ) (candidates : List Candidate) (offset : ℕ) : Type 0 where
  pub before : List Candidate
  pub after : List Candidate
  pub split : candidates ≡ before ++ (offset, labels) ∷ after
  pub others : AllByRecursion (λ c. c.1 ≢ labels) before

-- the offset of the first candidate with these bytes, if there is one
abbrev pub Finds : List ℕ → List Candidate → Option ℕ → Type 0
Finds labels candidates None = AllByRecursion (λ c. c.1 ≢ labels) candidates
Finds labels candidates (Some offset) = IsFirstWith labels candidates offset

-- ---- by what is read in the message

-- The candidate between these others is usable for the labels: it has their bytes, and in the message they are read at
-- its offset.
pub record IsUsable (message : List ℕ) (candidates : List Candidate) (labels : List (List ℕ)) (offset : ℕ) (before after : List Candidate) : Type 0 where
  pub split : candidates ≡ before ++ (offset, labels_wire labels) ∷ after
  pub end : ℕ
  pub pointers : ℕ
  pub name : NameAt message offset labels end pointers

-- The first candidate that is usable for the labels is at the offset.
pub record IsFirstUsable (message : List ℕ) (candidates : List Candidate) (labels : List (List ℕ)) (offset : ℕ) : Type 0 where
  pub before : List Candidate
  pub after : List Candidate
  pub usable : IsUsable message candidates labels offset before after
  pub first : (other : ℕ) (earlier later : List Candidate) → IsUsable message candidates labels other earlier later
      → length before ≤ length earlier

-- No candidate is usable for the labels.
abbrev pub NoneUsable : List ℕ → List Candidate → List (List ℕ) → Type 0
NoneUsable message candidates labels = (offset : ℕ) (before after : List Candidate) → IsUsable message candidates labels offset before after → ⊥

-- the offset of the first candidate that is usable for the labels, if there is one
abbrev pub FindsUsable : List ℕ → List (List ℕ) → List Candidate → Option ℕ → Type 0
FindsUsable message labels candidates None = NoneUsable message candidates labels
FindsUsable message labels candidates (Some offset) = IsFirstUsable message candidates labels offset

-- ---- those of a name

-- the suffixes of labels that are written at an offset, longest first
abbrev pub suffixes : ℕ → List (List ℕ) → List Candidate
suffixes offset [] = []
suffixes offset (l ∷ labels) = (offset, labels_wire (l ∷ labels)) ∷ suffixes (offset + 1 + length l) labels

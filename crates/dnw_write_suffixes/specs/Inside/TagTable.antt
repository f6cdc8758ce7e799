-- Tags: candidates that share a tag are linked in a ring, so that a search passes over all others.
use Rattle.std.specs.Prelude.{◌≡◌, ℕ, ◌+◌, ◌-◌, ◌*◌, ◌/◌, ◌%◌, ◌<◌, ◌≤◌, ◌&&◌, nat_lt, if◌then◌else◌, Option, Some, None, IfSome, List, [], ◌∷◌, get_or, length, take}
use Rattle.std.specs.List.{AllWithin}
use Rattle.dnw_base.specs.Names.{labels_wire}
use Rattle.dnw_name_read.specs.Reading.{NameAt}
use Rattle.dnw_write_suffixes.specs.Candidates.{Candidate}

-- ---- tags

-- two octets as one number
abbrev pub pair : ℕ → ℕ → ℕ
pair first second = first + second * 256

-- the last two octets of the label whose length octet is at the start
abbrev pub label_end : List ℕ → ℕ → ℕ → ℕ
label_end bytes start len =
    if nat_lt 0 len && nat_lt (start + len) (length bytes) then pair (get_or bytes (start + len - 1) 0) (get_or bytes (start + len) 0) * 801 else 0

-- A number below 256 that labels' bytes have, by their length, the first two octets of the first label, and the last two
-- of the first and the second.
abbrev pub tag : List ℕ → ℕ
tag (len ∷ first ∷ second ∷ rest) =
    let bytes = len ∷ first ∷ second ∷ rest in
    (length bytes % 256 * 51 + (pair first second * 18191 + (label_end bytes 0 len + label_end bytes (len + 1) (get_or bytes (len + 1) 0) * 5)) / 256) % 256
tag bytes = length bytes % 256

-- ---- rings: T is the tag of each candidate, and the first n are linked

-- No candidate from this one on and before the other has the tag.
abbrev pub NoneBetween : (ℕ → ℕ) → ℕ → ℕ → ℕ → Type 0
NoneBetween T t from to = (i : ℕ) → from ≤ i → i < to → T i ≡ t → ⊥

-- the candidate that was found, or n
abbrev pub place : ℕ → Option ℕ → ℕ
place n None = n
place n (Some i) = i

-- The first candidate from this one on that has the tag, if there is one.
pub record FindsNext (T : ℕ → ℕ) (n t from : ℕ) (found : Option ℕ) : Type 0 where
  pub some : IfSome found (λ i. (i < n) × (T i ≡ t))
  pub order : from ≤ place n found
  pub none : NoneBetween T t from (place n found)

-- The candidates of a tag are linked, each to the next one and the last to the first. The number of the last one is given,
-- counted from 1; it is 0 if there is none.
pub record IsRing (T : ℕ → ℕ) (next : List ℕ) (n t last : ℕ) : Type 0 where
  pub few : last ≤ n
  pub some : 1 ≤ last → T (last - 1) ≡ t
  pub none : NoneBetween T t last n
  pub first : 1 ≤ last → FindsNext T n t 0 (Some (get_or next (last - 1) 0))
  pub each : (i : ℕ) → i + 1 < last → T i ≡ t → FindsNext T n t (i + 1) (Some (get_or next i 0))

-- The first n are linked, each with those that have its tag, which is below this number.
abbrev pub AreRinged : ℕ → List ℕ → List ℕ → ℕ → (ℕ → ℕ) → Type 0
AreRinged tags last next n T = (t : ℕ) → t < tags → IsRing T next n t (get_or last t 0)

-- the tag of the i-th candidate, by its bytes
abbrev pub tag_at : (List ℕ → ℕ) → List Candidate → ℕ → ℕ
tag_at tag_of candidates i = tag_of (get_or candidates i (0, [])).1

-- The first ones of the candidates, these, are linked, whatever follows them.
pub record IsRingedFront (tags : ℕ) (tag_of : List ℕ → ℕ) (last next : List ℕ) (count : ℕ) (front : List Candidate) : Type 0 where
  pub whatever : (all : List Candidate) → take count all ≡ front → AreRinged tags last next count (tag_at tag_of all)

-- The first ones of the candidates are linked by their tags, so many.
pub record AreTagged (tags : ℕ) (tag_of : List ℕ → ℕ) (last next : List ℕ) (count : ℕ) (candidates : List Candidate) : Type 0 where
  pub few : count ≤ length candidates
  pub linked : IsRingedFront tags tag_of last next count (take count candidates)

-- ---- tags: of 256 tags

abbrev pub AreLinked : List ℕ → List ℕ → ℕ → (ℕ → ℕ) → Type 0
AreLinked = AreRinged 256

abbrev pub AreTaggedByFront : List ℕ → List ℕ → ℕ → List Candidate → Type 0
AreTaggedByFront = AreTagged 256 tag

-- ---- the search

-- The candidate does not have the bytes of the labels, or they are not read at its offset.
abbrev pub CannotBe : List ℕ → List (List ℕ) → Candidate → Type 0
CannotBe message labels c = c.1 ≡ labels_wire labels → (end pointers : ℕ) → NameAt message c.0 labels end pointers → ⊥

-- None of the first n candidates is usable.
abbrev pub NoneBefore : List ℕ → List (List ℕ) → List Candidate → ℕ → Type 0
NoneBefore message labels candidates n = AllWithin (CannotBe message labels) candidates 0 n

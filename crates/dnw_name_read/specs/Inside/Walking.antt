-- How a walk over a name goes: what it knows between two elements.
use Rattle.std.specs.Prelude.{◌≡◌, ◌≢◌, ◌⊎◌, ℕ, zero, suc, ◌+◌, ◌<◌, ◌≤◌, Option, Some, None, List, [], ◌++◌, length, slice_get, slice_range, unwrap_or}
use Rattle.dnw_base.specs.declared.error.DecodeError.{DecodeError}
use Rattle.dnw_name_read.specs.declared.walk.Element.{Element}
use Rattle.dnw_name_read.specs.declared.walk.Element.TheVariants.{End, Label, Pointer}
use Rattle.dnw_base.specs.Limits.{max_label, max_name, pointer_bits}
use Rattle.dnw_base.specs.Names.{encoded_size, labels_wire}
use Rattle.dnw_name_read.specs.Reading.{IsWithin, target, Reads, Stops}

-- the label's octets are there
pub record IsLabelAt (b : List ℕ) (p c : ℕ) : Type 0 where
  pub octet : slice_get b p ≡ Some c
  pub some : 1 ≤ c
  pub few : c ≤ max_label
  pub there : p + 1 + c ≤ length b

-- a pointer at p points to t, before the start of its segment
pub record IsPointerAt (b : List ℕ) (p s t : ℕ) : Type 0 where
  pub high : ℕ
  pub low : ℕ
  pub first : slice_get b p ≡ Some high
  pub marked : pointer_bits ≤ high
  pub second : slice_get b (p + 1) ≡ Some low
  pub leads : t ≡ target high low
  pub prior : t < s

-- the element at p, in a segment that began at s
abbrev pub IsElement : List ℕ → ℕ → ℕ → Element → Type 0
IsElement b p s End = slice_get b p ≡ Some 0
IsElement b p s (Label c) = IsLabelAt b p c
IsElement b p s (Pointer t) = IsPointerAt b p s t

-- there is no element at p, whatever the limit is and whatever was read before
abbrev pub IsNoElement : List ℕ → ℕ → ℕ → DecodeError → Type 0
IsNoElement b p s error = (n : ℕ) (limit : Option ℕ) → IsWithin p limit → Stops b p s limit n error 0 0

-- what a pointer sets: nothing before the first pointer is followed, and then this
abbrev pub once_followed : ℕ → ℕ → Option ℕ
once_followed zero x = None
once_followed (suc pointers) x = Some x

-- Each reading from p on, after these labels and so many pointers, is one from start on. If its own octets end at e, those
-- of the whole end at own e.
pub record GoesOn (b : List ℕ) (start p s : ℕ) (limit : Option ℕ) (passed : List (List ℕ)) (own : ℕ → ℕ) (pointers : ℕ) : Type 0 where
  pub reads : (ls : List (List ℕ)) (e k : ℕ)
      → Reads b p s limit ls e k → Reads b start start None (passed ++ ls) (own e) (pointers + k)

-- A walk whose first label is at first, after the pointers before it, has passed these labels: each reading from p on is
-- one from first on. No pointer was followed since if the segment began there.
pub record Leads (b : List ℕ) (first p s : ℕ) (limit : Option ℕ) (passed : List (List ℕ)) : Type 0 where
  pub more : ℕ
  pub own : ℕ → ℕ
  pub earlier : s + more ≤ first
  pub goes_on : GoesOn b first p s limit passed own more

-- The counts and offsets of a walk from start that has passed these labels, at p.
pub record WalkCounts (b : List ℕ) (start p s limit size pointers labels : ℕ) (passed : List (List ℕ)) : Type 0 where
  pub size_is : encoded_size passed ≡ size
  pub count_is : length passed ≡ labels
  pub few : labels + labels + 1 ≤ size
  pub fits : size ≤ max_name
  pub order : s ≤ p
  pub back : pointers + s ≤ start
  pub inside : limit ≤ length b

-- The octets of the labels that were passed: those in segments before, and then those of the segment that began at s. There are none
-- before the first label, and they are in one piece from there on if the limit is there: then the segment before began there.
pub record PassedOctets (b : List ℕ) (first p s limit : ℕ) (passed : List (List ℕ)) : Type 0 where
  pub before : List ℕ
  pub octets : labels_wire passed ≡ before ++ slice_range b s p
  pub none : s ≡ first → before ≡ []
  pub some : s ≢ first → 1 ≤ length before
  pub piece : limit ≡ first → before ≡ slice_range b first (first + length before)
  pub inside : limit ≡ first → first + length before ≤ length b

-- So many octets of a wire form are at first, if its last octets are in the segment that began at s: all if it began there, or those
-- before them if the segment before began there. In any other case it is not known how many.
abbrev pub IsFirstPiece : ℕ → ℕ → ℕ → ℕ → ℕ → ℕ → Type 0
IsFirstPiece first s limit size last head =
    ((s ≡ first) × (head ≡ size)) ⊎ (((s ≢ first) × ((limit ≡ first) × (head + last ≡ size))) ⊎ ((s ≢ first) × ((limit ≢ first) × (head ≡ 0))))

-- What a walk from start knows at p, with these counts: each reading and each fault from p on is one from the start.
-- Before the first pointer the limit is the end of the message. After it the limit is the start of the segment before,
-- and the name's own octets end at end.
pub record WalksOn (b : List ℕ) (start first p s limit end size pointers labels : ℕ) : Type 0 where
  pub passed : List (List ℕ)
  pub counts : WalkCounts b start p s limit size pointers labels passed
  pub whole : pointers ≡ 0 → limit ≡ length b
  pub leads : Leads b first p s (once_followed pointers limit) passed
  pub here : leads.more ≡ 0 → s ≡ first
  pub next : leads.more ≡ 1 → limit ≡ first
  pub written : PassedOctets b first p s limit passed
  pub goes_on : GoesOn b start p s (once_followed pointers limit) passed (λ e. unwrap_or (once_followed pointers end) e) pointers
  pub stops : (error : DecodeError) (k j : ℕ)
      → Stops b p s (once_followed pointers limit) size error k j → Stops b start start None 1 error (pointers + k) (labels + j)

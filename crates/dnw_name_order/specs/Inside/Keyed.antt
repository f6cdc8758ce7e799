-- Sort keys of names, each with the number of its name.
use Rattle.std.specs.Prelude.{◌≡◌, ℕ, List, length, map}
use Rattle.smallvec.specs.SmallVec.{SmallVec}
use Rattle.std.specs.List.{range_with_len}
use Rattle.std.specs.List.Sorted.{IsPermutation, IsSorted}
use Rattle.std.specs.Cmp.Lexicographic.{slice_cmp}
use Rattle.std.specs.Ordering.{nat_cmp, ordering_then}
use Rattle.std.specs.declared.cmp.Ordering.{Ordering}

abbrev pub key_of : SmallVec ℕ × ℕ → List ℕ
key_of entry = entry.0.items

abbrev pub number_of : SmallVec ℕ × ℕ → ℕ
number_of entry = entry.1

-- their numbers are those from 0 on, in turn
abbrev pub AreNumbered : List (SmallVec ℕ × ℕ) → Type 0
AreNumbered entries = map number_of entries ≡ range_with_len 0 (length entries)

-- entries by their keys, and then by their numbers
abbrev pub entry_cmp : SmallVec ℕ × ℕ → SmallVec ℕ × ℕ → Ordering
entry_cmp x y = ordering_then (slice_cmp nat_cmp (key_of x) (key_of y)) (nat_cmp (number_of x) (number_of y))

-- The same entries, in this order.
pub record AreSorted (entries sorted : List (SmallVec ℕ × ℕ)) : Type 0 where
  pub moved : IsPermutation entries sorted
  pub ascend : IsSorted entry_cmp sorted

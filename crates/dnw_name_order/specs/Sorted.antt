-- Names in canonical order (RFC 4034, section 6.1), by their numbers in a list.
use Rattle.std.specs.Prelude.{ℕ, List, [], length, slice_index_or}
use Rattle.std.specs.List.{range_with_len}
use Rattle.std.specs.List.Sorted.{IsPermutation, IsStrictlySortedBy}
use Rattle.std.specs.Ordering.{on, then_cmp, nat_cmp}
use Rattle.std.specs.declared.cmp.Ordering.{Ordering}
use Rattle.dnw_name_order.specs.Order.{labels_cmp}

-- two numbers of names, by the names and then as numbers
abbrev pub numbers_cmp : List (List (List ℕ)) → ℕ → ℕ → Ordering
numbers_cmp names = then_cmp (on (λ number. slice_index_or names number []) labels_cmp) nat_cmp

-- The numbers of these names, from 0, each once: in the order of the names, and those of equal names ascend.
pub record AreInOrder (names : List (List (List ℕ))) (numbers : List ℕ) : Type 0 where
  pub each_once : IsPermutation (range_with_len 0 (length names)) numbers
  pub ascend : IsStrictlySortedBy (numbers_cmp names) numbers

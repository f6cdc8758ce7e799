-- Names that ascend: what one of them says of those before it and after it.
use Rattle.std.proofs.Common.{◌≡◌, ◌↔◌, ℕ, ◌+◌, ◌<◌, ◌≤◌, ◌∷◌, [], ◌++◌, Bool, IsTrue, List, Some, length, get_or, reverse, slice_get, refl, sym, ap, ◌∙◌, subst, inl, inr, arith}
use mathlib.Core.Bool.{false≢true}
use Rattle.std.specs.Cmp.{IsTotalOrder, nat_cmp_total, on_total}
use Rattle.std.specs.Cmp.Lexicographic.{lists_total}
use Rattle.std.specs.List.Sorted.{IsStrictlySortedBy}
use Rattle.std.specs.Ordering.{is_lt, ordering_reverse}
use Rattle.std.specs.declared.cmp.Ordering.{Ordering}
use Rattle.std.specs.declared.cmp.Ordering.TheVariants.{Less, Equal, Greater}
use Rattle.std.proofs.lemmas.Bool.{cases_lt}
use Rattle.std.proofs.lemmas.List.{get_or_append_left, get_or_at, length-append}
use Rattle.std.proofs.lemmas.Map.Keys.{Less-from_sorted, sorted_from_all_adjacent}
use Rattle.std.proofs.lemmas.Option.{get_or_from_slice_get}
use Rattle.dns_names_wire.specs.Words.{labels_cmp, lower}
use Rattle.uses.specs.Tables.{ComesLast}

labels_total : IsTotalOrder labels_cmp
labels_total = on_total (λ (ls : List (List ℕ)). lower (reverse ls)) (lists_total (lists_total nat_cmp_total))

flipped : (x y : List (List ℕ)) (o : Ordering) → labels_cmp x y ≡ o → labels_cmp y x ≡ ordering_reverse o
flipped x y o e = labels_total.antisymm y x ∙ ap ordering_reverse e

module _ (names : List (List (List ℕ))) (sorted : IsStrictlySortedBy labels_cmp names) (ls : List (List ℕ)) (i : ℕ) (within : i < length names) where
  -- names before one that comes before ls do too
  pub less_before : (d : List (List ℕ)) → labels_cmp (get_or names i d) ls ≡ Less → (k : ℕ) → k ≤ i → labels_cmp (get_or names k d) ls ≡ Less
  less_before d less k le = elim (cases_lt k i) [
    | inl below ↦ labels_total.trans (get_or names k d) (get_or names i d) ls (Less-from_sorted labels_cmp names k i d sorted below within) less
    | inr above ↦ let same : k ≡ i = omega (arith, above, le) in subst (λ j. labels_cmp (get_or names j d) ls ≡ Less) (sym same) less
  ]

  -- names after one that comes after ls do too
  pub greater_after : (d : List (List ℕ)) → labels_cmp (get_or names i d) ls ≡ Greater → (k : ℕ) → i ≤ k → k < length names
      → labels_cmp (get_or names k d) ls ≡ Greater
  greater_after d greater k le less = elim (cases_lt i k) [
    | inl below ↦ flipped ls (get_or names k d) Less (labels_total.trans ls (get_or names i d) (get_or names k d)
        (flipped (get_or names i d) ls Greater greater) (Less-from_sorted labels_cmp names i k d sorted below less))
    | inr above ↦ let same : k ≡ i = omega (arith, above, le) in subst (λ j. labels_cmp (get_or names j d) ls ≡ Greater) (sym same) greater
  ]

-- how a name that is read at an index compares
pub compares : (names : List (List (List ℕ))) (ls name : List (List ℕ)) (i : ℕ) (o p : Ordering) → slice_get names i ≡ Some name → o ≡ labels_cmp name ls → o ≡ p
    → (d : List (List ℕ)) → labels_cmp (get_or names i d) ls ≡ p
compares names ls name i o p found compared is d = ap (λ n. labels_cmp n ls) (get_or_from_slice_get names i name d found) ∙ sym compared ∙ is

is_less : (o : Ordering) → IsTrue (is_lt o) → o ≡ Less
is_less Less h = refl
is_less Equal h = absurd (false≢true h)
is_less Greater h = absurd (false≢true h)

-- the last name decides whether all come before ls
pub last_decides : (names : List (List (List ℕ))) → IsStrictlySortedBy labels_cmp names → (ls last : List (List ℕ)) (i : ℕ) → i + 1 ≡ length names
    → slice_get names i ≡ Some last → (o : Ordering) → o ≡ labels_cmp last ls → (test : Bool) → test ≡ is_lt o → IsTrue test ↔ ComesLast names ls
last_decides names sorted ls last i end found o compared test tested =
    let at : (d : List (List ℕ)) → get_or names i d ≡ last = λ d. get_or_from_slice_get names i last d found in (
      λ yes. λ k d from below.
          let less : labels_cmp last ls ≡ Less = sym compared ∙ is_less o (sym tested ∙ yes) in
          less_before names sorted ls i (omega (arith, end)) d (ap (λ n. labels_cmp n ls) (at d) ∙ less) k (omega (arith, below, end)),
      λ all. tested ∙ ap is_lt (compared ∙ ap (λ n. labels_cmp n ls) (sym (at last)) ∙ all i last (omega arith) (omega (arith, end))),
    )

-- a name that comes after all others goes to the end
pub sorted_push : (names : List (List (List ℕ))) (ls : List (List ℕ)) → IsStrictlySortedBy labels_cmp names → ComesLast names ls
    → IsStrictlySortedBy labels_cmp (names ++ ls ∷ [])
sorted_push names ls sorted all = sorted_from_all_adjacent labels_total (names ++ ls ∷ []) [] adjacent
  where
    adjacent : (k : ℕ) → k + 1 < length (names ++ ls ∷ []) → labels_cmp (get_or (names ++ ls ∷ []) k []) (get_or (names ++ ls ∷ []) (k + 1) []) ≡ Less
    adjacent k less =
        let here : k < length names = omega (arith, less, length-append names (ls ∷ [])) in
        elim (cases_lt (k + 1) (length names)) [
          | inl inside ↦ rw (get_or_append_left names (ls ∷ []) [] k here, get_or_append_left names (ls ∷ []) [] (k + 1) inside)
              (Less-from_sorted labels_cmp names k (k + 1) [] sorted (omega arith) inside)
          | inr end ↦ rw (get_or_append_left names (ls ∷ []) [] k here, get_or_at names ls [] [] (k + 1) (omega (arith, here, end))) (all k [] (omega arith) here)
        ]

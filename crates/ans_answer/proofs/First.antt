-- The first record of a type.
use Rattle.std.proofs.Common.{◌≡◌, ℕ, zero, suc, ◌+◌, ◌-◌, ◌<◌, ◌≤◌, Bool, true, false, List, [], ◌∷◌, length, get_or, take, drop, slice_get, Some, None, refl, sym, ap, ◌∙◌, arith}
use Rattle.std.proofs.lemmas.List.{get_or-drop, get_or-take, length-drop, length-take}
use Rattle.std.specs.List.{filter}
use Rattle.dns_names_wire.specs.Words.{RecordValue}

filter_first : (p : RecordValue → Bool) (xs : List RecordValue) (k : ℕ) (d : RecordValue) → k < length xs
    → ((j : ℕ) → j < k → p (get_or xs j d) ≡ false) → p (get_or xs k d) ≡ true → slice_get (filter p xs) 0 ≡ Some (get_or xs k d)
filter_first p [] k d h none passes = absurd (omega arith)
filter_first p (x ∷ xs) zero d h none passes = rw passes refl
filter_first p (x ∷ xs) (suc k) d h none passes =
    rw (none 0 (omega arith)) (filter_first p xs k d (omega arith) (λ j below. none (suc j) (omega arith)) passes)

filter_none : (p : RecordValue → Bool) (xs : List RecordValue) → ((j : ℕ) (d : RecordValue) → j < length xs → p (get_or xs j d) ≡ false) → filter p xs ≡ []
filter_none p [] none = refl
filter_none p (x ∷ xs) none = rw (none 0 x (omega arith)) (filter_none p xs (λ j d below. none (suc j) d (omega arith)))

part_at : (zs : List RecordValue) (s e j : ℕ) (d : RecordValue) → j < e - s → get_or (take (e - s) (drop s zs)) j d ≡ get_or zs (s + j) d
part_at zs s e j d h = get_or-take (e - s) (drop s zs) j d h ∙ get_or-drop s zs j d

module _ (p : RecordValue → Bool) (zs : List RecordValue) (s e : ℕ) (within : e ≤ length zs) where
  pub first_found : (k : ℕ) (r : RecordValue) → s ≤ k → k < e → r ≡ get_or zs k r → p r ≡ true
      → ((j : ℕ) (d : RecordValue) → s ≤ j → j < k → p (get_or zs j d) ≡ false)
      → slice_get (filter p (take (e - s) (drop s zs))) 0 ≡ Some r
  first_found k r from below is passes none =
      let place : s + (k - s) ≡ k = omega arith in
      let same : get_or (take (e - s) (drop s zs)) (k - s) r ≡ r = part_at zs s e (k - s) r (omega arith) ∙ (ap (λ n. get_or zs n r) place ∙ sym is) in
      filter_first p (take (e - s) (drop s zs)) (k - s) r (simp (length-take, length-drop) (omega arith))
      (λ j before. ap p (part_at zs s e j r (omega arith)) ∙ none (s + j) r (omega arith) (omega arith)) (ap p same ∙ passes)
      ∙ ap Some same

  pub none_found : ((j : ℕ) (d : RecordValue) → s ≤ j → j < e → p (get_or zs j d) ≡ false) → slice_get (filter p (take (e - s) (drop s zs))) 0 ≡ None
  none_found none =
      let long : length (take (e - s) (drop s zs)) ≤ e - s = simp (length-take, length-drop) (omega arith) in
      ap (λ (xs : List RecordValue). slice_get xs 0)
      (filter_none p (take (e - s) (drop s zs)) (λ j d below. ap p (part_at zs s e j d (omega arith)) ∙ none (s + j) d (omega arith) (omega arith)))

-- The elements of a list from one number on, or up to another; and names by their numbers.
use Rattle.std.proofs.Common.{◌≡◌, ℕ, zero, suc, ◌+◌, ◌-◌, ◌<◌, ◌≤◌, min, List, [], ◌∷◌, length, get_or, take, drop, slice_get, unwrap_or, Option, Some, None, refl, sym, ap, ◌∙◌, inl, inr, arith, add-one}
use Rattle.std.proofs.Math.Seq.{drop-cons}
use Rattle.std.proofs.lemmas.Bool.{cases_lt}
use Rattle.std.proofs.lemmas.List.{length-drop, take_all}
use Rattle.std.proofs.lemmas.Option.{slice_get-map, unwrap_or-slice_get}
use Rattle.std.specs.Option.{option_map}
use Rattle.dns_names_wire.specs.Words.{NameValue}
use Rattle.ans_answer.specs.Seen.{all_labels, numbered_name}

pub drop_next : {X : Type 0} (xs : List X) (i : ℕ) (x : X) → i < length xs → x ≡ get_or xs i x → drop i xs ≡ x ∷ drop (i + 1) xs
drop_next xs i x h is = rw (add-one, drop-cons xs i x h, ← is) refl

pub range_next : {X : Type 0} (zs : List X) (k e : ℕ) (r : X) → k < e → e ≤ length zs → r ≡ get_or zs k r
    → take (e - k) (drop k zs) ≡ r ∷ take (e - (k + 1)) (drop (k + 1) zs)
range_next zs k e r h within is =
    let long : e - k ≡ suc (e - (k + 1)) = omega arith in
    rw (long, drop_next zs k r (omega arith) is) refl

pub range_none : {X : Type 0} (zs : List X) (k e : ℕ) → e ≤ k → take (e - k) (drop k zs) ≡ []
range_none zs k e h = let none : e - k ≡ 0 = omega arith in rw none refl

-- A list ends where its elements do.
pub range_clipped : {X : Type 0} (zs : List X) (s e m : ℕ) → m ≡ min e (length zs) → take (m - s) (drop s zs) ≡ take (e - s) (drop s zs)
range_clipped zs s e m is = elim (cases_lt (length zs) e) [
  | inl longer ↦
      take_all (m - s) (drop s zs) (omega (arith, is, length-drop s zs)) ∙ sym (take_all (e - s) (drop s zs) (omega (arith, length-drop s zs)))
  | inr within ↦ let same : m ≡ e = omega (arith, is) in ap (λ n. take (n - s) (drop s zs)) same
]

-- ---- names by their numbers

pub name_there : (names : List NameValue) (m : ℕ) (x : NameValue) → slice_get names m ≡ Some x → numbered_name (all_labels names) m ≡ x.labels
name_there names m x is =
    sym (unwrap_or-slice_get (all_labels names) m [])
    ∙ ap (λ (o : Option (List (List ℕ))). unwrap_or o []) (slice_get-map (λ (n : NameValue). n.labels) names m ∙ ap (option_map (λ (n : NameValue). n.labels)) is)

pub name_past : (names : List NameValue) (m : ℕ) → slice_get names m ≡ None → numbered_name (all_labels names) m ≡ []
name_past names m is =
    sym (unwrap_or-slice_get (all_labels names) m [])
    ∙ ap (λ (o : Option (List (List ℕ))). unwrap_or o []) (slice_get-map (λ (n : NameValue). n.labels) names m ∙ ap (option_map (λ (n : NameValue). n.labels)) is)

pub name_after : (asked : List (List ℕ)) (names : List (List (List ℕ))) (number : ℕ) → 0 < number
    → numbered_name (asked ∷ names) number ≡ numbered_name names (number - 1)
name_after asked names zero h = absurd (omega arith)
name_after asked names (suc m) h = let same : m ≡ suc m - 1 = omega arith in ap (numbered_name names) same

pub name_next : (asked : List (List ℕ)) (names : List (List (List ℕ))) (number : ℕ) → numbered_name (asked ∷ names) (number + 1) ≡ numbered_name names number
name_next asked names number = let same : number + 1 ≡ suc number = omega arith in ap (numbered_name (asked ∷ names)) same

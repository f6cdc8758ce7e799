-- An order of octets, and of the labels that are made of them.
use Rattle.std.proofs.Common.{◌≡◌, ℕ, ◌<◌, ◌≤◌, min, List, [], ◌∷◌, length, map, drop, refl, sym, ap, ◌∙◌, arith}
use Rattle.std.proofs.lemmas.List.{drop_more, drop_all}
use Rattle.std.specs.Cmp.{IsTotalOrder}
use Rattle.std.specs.Cmp.Lexicographic.{slice_cmp, lists_total}
use Rattle.std.specs.Ordering.{MatchOrdering, on, ordering_then, ordering_reverse}
use Rattle.std.specs.declared.cmp.Ordering.{Ordering}
use Rattle.std.specs.declared.cmp.Ordering.TheVariants.{Less, Equal, Greater}
use Rattle.dnw_name_form.specs.LabelOrder.{IsTotalPreorder, IsOctet, AreOctets}

-- an order of octets, which reads each greater number as 255
abbrev clamped : (ℕ → ℕ → Ordering) → ℕ → ℕ → Ordering
clamped R = on (λ x. min x 255) R

clamped_total : {R : ℕ → ℕ → Ordering} → IsTotalPreorder IsOctet R → IsTotalOrder (clamped R)
clamped_total p = record {
  antisymm = λ x y. p.antisymm (min x 255) (min y 255) (omega arith) (omega arith);
  trans = λ x y z. p.trans (min x 255) (min y 255) (min z 255) (omega arith) (omega arith) (omega arith);
  congr = λ x y z. p.congr (min x 255) (min y 255) (min z 255) (omega arith) (omega arith) (omega arith);
}

clamped_same : (R : ℕ → ℕ → Ordering) (xs ys : List ℕ) → AreOctets xs → AreOctets ys → slice_cmp (clamped R) xs ys ≡ slice_cmp R xs ys
clamped_same R [] [] hx hy = refl
clamped_same R [] (y ∷ ys) hx hy = refl
clamped_same R (x ∷ xs) [] hx hy = refl
clamped_same R (x ∷ xs) (y ∷ ys) hx hy =
    let low : min x 255 ≡ x = omega (arith, hx.0) in
    let low_too : min y 255 ≡ y = omega (arith, hy.0) in
    rw (low, low_too, clamped_same R xs ys hx.1 hy.1) refl

-- so labels are ordered, too
pub labels_preorder : {R : ℕ → ℕ → Ordering} → IsTotalPreorder IsOctet R → IsTotalPreorder AreOctets (slice_cmp R)
labels_preorder {R} p =
    let total = lists_total (clamped_total p) in
    let same = clamped_same R in
    record {
      antisymm = λ xs ys hx hy. sym (same xs ys hx hy) ∙ total.antisymm xs ys ∙ ap ordering_reverse (same ys xs hy hx);
      trans = λ xs ys zs hx hy hz first second.
          sym (same xs zs hx hz) ∙ total.trans xs ys zs (same xs ys hx hy ∙ first) (same ys zs hy hz ∙ second);
      congr = λ xs ys zs hx hy hz tied.
          sym (same xs zs hx hz) ∙ total.congr xs ys zs (same xs ys hx hy ∙ tied) ∙ same ys zs hy hz;
    }

-- if one list has ended, the lengths decide
pub slice_cmp_ended : {A : Type 0} (R : A → A → Ordering) (or : A) (i : ℕ) (xs ys : List A) (r : Ordering)
    → MatchOrdering r (length xs < length ys) (length xs ≡ length ys) (length ys < length xs) → i ≡ min (length xs) (length ys)
    → slice_cmp R (drop i xs) (drop i ys) ≡ r
slice_cmp_ended R or i xs ys Less h e =
    let none : length xs ≤ i = omega (arith, h, e) in
    let more : i < length ys = omega (arith, h, e) in
    rw (drop_all i xs none, drop_more ys i or more) refl
slice_cmp_ended R or i xs ys Equal h e =
    let none : length xs ≤ i = omega (arith, h, e) in
    let none_too : length ys ≤ i = omega (arith, h, e) in
    rw (drop_all i xs none, drop_all i ys none_too) refl
slice_cmp_ended R or i xs ys Greater h e =
    let none : length ys ≤ i = omega (arith, h, e) in
    let more : i < length xs = omega (arith, h, e) in
    rw (drop_all i ys none, drop_more xs i or more) refl

-- lists whose items are compared through a function are compared item by item under it
pub slice_cmp_on : {A B : Type 0} (f : A → B) (R : B → B → Ordering) (xs ys : List A) → slice_cmp (on f R) xs ys ≡ slice_cmp R (map f xs) (map f ys)
slice_cmp_on f R [] [] = refl
slice_cmp_on f R [] (y ∷ ys) = refl
slice_cmp_on f R (x ∷ xs) [] = refl
slice_cmp_on f R (x ∷ xs) (y ∷ ys) = ap (ordering_then (R (f x) (f y))) (slice_cmp_on f R xs ys)

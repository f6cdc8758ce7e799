-- Names that are another or below it stand together in canonical order.
use Rattle.std.proofs.Common.{◌≡◌, ℕ, ◌-◌, Bool, true, false, true≢false, List, [], ◌∷◌, ◌++◌, inl, inr, length, length-drop, get_or, take, drop, is_some, reverse, Some, None, refl, sym, ap, ◌∙◌, arith}
use Rattle.std.proofs.lemmas.Cmp.{alike_right, nat_list_cmp_total}
use Rattle.std.proofs.lemmas.Bool.{cases_lt, not-false, not-true}
use Rattle.std.proofs.lemmas.List.{length-map, length-reverse, reverse-append, take_all, take-append-drop, take-append-le, take-map}
use Rattle.std.specs.Cmp.{IsTotalOrder}
use Rattle.std.specs.Cmp.Lexicographic.{slice_cmp}
use Rattle.std.specs.List.{position_from}
use Rattle.std.specs.Ordering.{is_eq, is_lt, ordering_reverse, ordering_then}
use Rattle.std.specs.declared.cmp.Ordering.{Ordering}
use Rattle.std.specs.declared.cmp.Ordering.TheVariants.{Less, Equal, Greater}
use Rattle.dnw_base.specs.Names.{lower}
use Rattle.dnw_name_form.specs.LabelOrder.{octets_cmp}
use Rattle.dnw_name_order.specs.Order.{canonical, labels_cmp}
use Rattle.dnw_zone_checks.specs.Checks.{OwnersAreInOrder, exists, is_in, is_same}
use Rattle.dnw_zone_checks.specs.Inside.Seeking.{is_from}
use Rattle.dnw_zone_checks.proofs.Lookups.{IsNarrower, far, narrower_first, narrower_none, narrower_past}
use Rattle.dnw_record.specs.Records.{RecordValue}

-- ---- lists that begin with another

abbrev begins : {K : Type 0} → (K → K → Ordering) → List K → List K → Bool
begins R front xs = is_eq (slice_cmp R (take (length front) xs) front)

before_next : {K : Type 0} (R : K → K → Ordering) (n x : K) (front xs : List K) (o : Ordering) → R x n ≡ o
    → (is_lt (slice_cmp R xs front) ≡ true → begins R front xs ≡ false) → is_lt (ordering_then (R x n) (slice_cmp R xs front)) ≡ true
    → is_eq (ordering_then (R x n) (slice_cmp R (take (length front) xs) front)) ≡ false
before_next R n x front xs Less e on h = rw e refl
before_next R n x front xs Equal e on h = rw e (on (rw e at h))
before_next R n x front xs Greater e on h = rw e refl

before : {K : Type 0} (R : K → K → Ordering) (front xs : List K) → is_lt (slice_cmp R xs front) ≡ true → begins R front xs ≡ false
before R [] [] h = absurd (true≢false (sym h))
before R [] (x ∷ xs) h = absurd (true≢false (sym h))
before R (n ∷ front) [] h = refl
before R (n ∷ front) (x ∷ xs) h = before_next R n x front xs (R x n) refl (before R front xs) h

after_next : {K : Type 0} {R : K → K → Ordering} (o : IsTotalOrder R) (n x y : K) (front xs ys : List K) (a b : Ordering) → R x n ≡ a → R y x ≡ b
    → (is_lt (slice_cmp R xs front) ≡ false → begins R front xs ≡ false → is_lt (slice_cmp R ys xs) ≡ false → begins R front ys ≡ false)
    → is_lt (ordering_then (R x n) (slice_cmp R xs front)) ≡ false
    → is_eq (ordering_then (R x n) (slice_cmp R (take (length front) xs) front)) ≡ false
    → is_lt (ordering_then (R y x) (slice_cmp R ys xs)) ≡ false
    → is_eq (ordering_then (R y n) (slice_cmp R (take (length front) ys) front)) ≡ false
after_next o n x y front xs ys Less b e f on h g u = absurd (true≢false (rw e at h))
after_next o n x y front xs ys a Less e f on h g u = absurd (true≢false (rw f at u))
after_next o n x y front xs ys Equal Equal e f on h g u = rw (o.congr y x n f ∙ e) (on (rw e at h) (rw e at g) (rw f at u))
after_next o n x y front xs ys Equal Greater e f on h g u = rw (sym (alike_right o x n y e) ∙ f) refl
after_next o n x y front xs ys Greater Equal e f on h g u = rw (o.congr y x n f ∙ e) refl
after_next {K} {R} o n x y front xs ys Greater Greater e f on h g u =
    let n_x : R n x ≡ Less = o.antisymm n x ∙ ap ordering_reverse e in
    let x_y : R x y ≡ Less = o.antisymm x y ∙ ap ordering_reverse f in
    let y_n : R y n ≡ Greater = o.antisymm y n ∙ ap ordering_reverse (o.trans n x y n_x x_y) in
    rw y_n refl

after : {K : Type 0} {R : K → K → Ordering} (o : IsTotalOrder R) (front xs ys : List K) → is_lt (slice_cmp R xs front) ≡ false → begins R front xs ≡ false
    → is_lt (slice_cmp R ys xs) ≡ false → begins R front ys ≡ false
after o [] xs ys h g u = absurd (true≢false g)
after o (n ∷ front) [] ys h g u = absurd (true≢false h)
after o (n ∷ front) (x ∷ xs) [] h g u = absurd (true≢false u)
after {K} {R} o (n ∷ front) (x ∷ xs) (y ∷ ys) h g u = after_next o n x y front xs ys (R x n) (R y x) refl refl (after o front xs ys) h g u

-- ---- names

reverse_last : {X : Type 0} (n : ℕ) (xs : List X) → reverse (drop (length xs - n) xs) ≡ take n (reverse xs)
reverse_last n xs =
    let k = length xs - n in
    let whole : reverse xs ≡ reverse (drop k xs) ++ reverse (take k xs) = ap reverse (sym (take-append-drop k xs)) ∙ reverse-append (take k xs) (drop k xs) in
    let size : length (reverse (drop k xs)) ≡ length xs - k = length-reverse (drop k xs) ∙ length-drop k xs in
    elim (cases_lt (length xs) n) [
      | inl l ↦
          let none : k ≡ 0 = omega arith in
          ap (λ (m : ℕ). reverse (drop m xs)) none ∙ sym (take_all n (reverse xs) (omega (arith, length-reverse xs)))
      | inr g ↦ sym (ap (take n) whole ∙ take-append-le n (reverse (drop k xs)) (reverse (take k xs)) (omega (arith, size)) ∙ take_all n (reverse (drop k xs)) (omega (arith, size)))
    ]

canonical_length : (name : List (List ℕ)) → length (canonical name) ≡ length name
canonical_length name = length-map (reverse name) _ ∙ length-reverse name

-- a name is another or below it if it begins with it from the last label on
in_begins : (zone name : List (List ℕ)) → is_in zone name ≡ begins octets_cmp (canonical zone) (canonical name)
unfolding is_in is_same
in_begins zone name =
    let n : length (canonical zone) ≡ length zone = canonical_length zone in
    let front : canonical (drop (length name - length zone) name) ≡ take (length (canonical zone)) (canonical name) =
    ap lower (reverse_last (length zone) name) ∙ sym (take-map _ (length zone) (reverse name)) ∙ ap (λ (m : ℕ). take m (canonical name)) (sym n) in
    ap (λ (front : List (List ℕ)). is_eq (slice_cmp octets_cmp front (canonical zone))) front

names_total : IsTotalOrder octets_cmp
names_total = nat_list_cmp_total

below_is_not_before : (name x : List (List ℕ)) → is_lt (labels_cmp x name) ≡ true → is_in name x ≡ false
below_is_not_before name x h = in_begins name x ∙ before octets_cmp (canonical name) (canonical x) h

none_below_after : (name x y : List (List ℕ)) → is_lt (labels_cmp x name) ≡ false → is_in name x ≡ false → is_lt (labels_cmp y x) ≡ false → is_in name y ≡ false
none_below_after name x y h g u = in_begins name y ∙ after names_total (canonical name) (canonical x) (canonical y) h (sym (in_begins name x) ∙ g) u

in_is_narrower : (zs : List RecordValue) (name : List (List ℕ)) → OwnersAreInOrder zs → IsNarrower zs (is_from name (λ code. true)) (λ r. is_in name r.owner)
in_is_narrower zs name up = record {
  only = λ k d h. below_is_not_before name (get_or zs k d).owner (not-false _ h);
  after = λ n k d h below from not. none_below_after name (get_or zs n d).owner (get_or zs k d).owner (not-true _ from) not (far zs up n k d h below);
}

pub exists_if : (zs : List RecordValue) (name : List (List ℕ)) (k : ℕ) (b : Bool) → OwnersAreInOrder zs → position_from (is_from name (λ code. true)) 0 zs ≡ Some k
    → ((d : RecordValue) → is_in name (get_or zs k d).owner ≡ b) → exists zs name ≡ b
exists_if zs name k true up is e = ap is_some (narrower_first zs _ _ k (in_is_narrower zs name up) is e)
exists_if zs name k false up is e = ap is_some (narrower_past zs _ _ k (in_is_narrower zs name up) is e)

pub exists_not : (zs : List RecordValue) (name : List (List ℕ)) → OwnersAreInOrder zs → position_from (is_from name (λ code. true)) 0 zs ≡ None → exists zs name ≡ false
exists_not zs name up none = ap is_some (narrower_none zs _ _ (in_is_narrower zs name up) none)

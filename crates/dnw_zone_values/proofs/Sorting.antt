-- Parameters that are sorted by their keys are those in the order of their keys, if no key is there twice.
use Rattle.std.proofs.Common.{◌≡◌, ◌≤◌, ◌<◌, ℕ, zero, suc, ◌+◌, ◌==◌, Bool, true, false, List, [], ◌∷◌, ◌++◌, ◌⊎◌, refl, sym, ap, ◌∙◌, subst, arith, append-nil, inl, inr}
use Rattle.std.specs.Prelude.{nat_le, nat_lt, if◌then◌else◌, Option, Some, None, option_map}
use Rattle.std.specs.List.{Contains, sum_by}
use Rattle.std.specs.List.Sorted.{IsNonDecreasingBy, IsPermutation}
use Rattle.std.proofs.lemmas.Bool.{cases_Bool, le-leb, leb-true, and_parts}
use Rattle.std.proofs.lemmas.Option.{same_Some}
use Rattle.std.proofs.lemmas.List.Sums.{sum_by-cons, sum_by-append}
use Rattle.std.proofs.lemmas.List.Sorted.{IsPermutation-refl, IsPermutation-sym, IsPermutation-trans, IsPermutation-cons, IsPermutation-append_left, IsPermutation-middle, Contains-permutation, sum_by-IsPermutation}
use Rattle.dnw_zone_values.specs.Params.{ParamValue, with_param, and_then, in_key_order, AreAscending, Sorts}
use Rattle.dnw_zone_values.specs.Inside.Steps.{ascend}
use Rattle.dnw_zone_values.proofs.Ascending.{order_ascends, put_more}

-- ---- how often a key is there

abbrev unit : ℕ → ParamValue → ℕ
unit k p = if p.key == k then 1 else 0

abbrev count : ℕ → List ParamValue → ℕ
count k ps = sum_by (unit k) ps

unit_is : (k : ℕ) (p : ParamValue) → p.key ≡ k → unit k p ≡ 1
unit_is k p e = let same : (p.key == k) ≡ true = grind arith in rw same refl

unit_other : (k : ℕ) (p : ParamValue) → (p.key ≡ k → ⊥) → unit k p ≡ 0
unit_other k p other = let no : (p.key == k) ≡ false = grind arith in rw no refl

more : (k : ℕ) (p : ParamValue) (ps : List ParamValue) → count k (p ∷ ps) ≡ unit k p + count k ps
more k p ps = sum_by-cons (unit k) p ps

both : (k : ℕ) (xs ys : List ParamValue) → count k (xs ++ ys) ≡ count k xs + count k ys
both k xs ys = sum_by-append (unit k) xs ys

moved : (k : ℕ) (xs ys : List ParamValue) → IsPermutation xs ys → count k ys ≡ count k xs
moved k xs ys h = sum_by-IsPermutation (unit k) xs ys h

-- among keys that ascend, none is there twice, and none below the least is there
below_least : (least k : ℕ) (ps : List ParamValue) → AreAscending least ps → k < least → count k ps ≡ 0
below_least least k [] up low = refl
below_least least k (p ∷ ps) up low =
    let rest = below_least (p.key + 1) k ps up.1 (omega (arith, low, up.0)) in
    more k p ps ∙ (let none = unit_other k p (λ e. omega (arith, e, low, up.0)) in omega (arith, none, rest))

at_most_once : (least k : ℕ) (ps : List ParamValue) → AreAscending least ps → count k ps ≤ 1
at_most_once least k [] up = let none : count k [] ≡ 0 = refl in omega (arith, none)
at_most_once least k (p ∷ ps) up = elim (cases_Bool (p.key == k)) [
  | inl same ↦
      let is : p.key ≡ k = grind arith in
      let one = unit_is k p is in
      let rest = below_least (p.key + 1) k ps up.1 (omega (arith, is)) in
      omega (arith, more k p ps, one, rest)
  | inr other ↦
      let none = unit_other k p (λ e. let no : (p.key == k) ≡ true = grind arith in cc) in
      omega (arith, more k p ps, none, at_most_once (p.key + 1) k ps up.1)
]

-- ---- one parameter more

flip : (p q : ParamValue) (qs : List ParamValue) → IsPermutation (p ∷ q ∷ qs) (q ∷ p ∷ qs)
flip p q qs = IsPermutation-sym (q ∷ p ∷ qs) (p ∷ q ∷ qs) (IsPermutation-middle (q ∷ []) p qs)

with_moves : (p : ParamValue) (qs all : List ParamValue) → with_param p qs ≡ Some all → IsPermutation (p ∷ qs) all
with_moves p [] all e = subst (IsPermutation (p ∷ [])) (same_Some (p ∷ []) all e) (IsPermutation-refl (p ∷ []))
with_moves p (q ∷ qs) all e = elim (cases_Bool (p.key == q.key)) [
  | inl same ↦ let no : None ≡ Some all = rw same at e in cc
  | inr other ↦ elim (cases_Bool (nat_lt p.key q.key)) [
    | inl before ↦
        let put : Some (p ∷ q ∷ qs) ≡ Some all = rw (other, before) at e in
        subst (IsPermutation (p ∷ q ∷ qs)) (same_Some (p ∷ q ∷ qs) all put) (IsPermutation-refl (p ∷ q ∷ qs))
    | inr after ↦
        let rest : option_map (λ (others : List ParamValue). q ∷ others) (with_param p qs) ≡ Some all = rw (other, after) at e in
        let (others, is, whole) = put_more q qs all (with_param p qs) rest in
        subst (IsPermutation (p ∷ q ∷ qs)) (sym whole)
        (IsPermutation-trans (p ∷ q ∷ qs) (q ∷ p ∷ qs) (q ∷ others) (flip p q qs) (IsPermutation-cons q (p ∷ qs) others (with_moves p qs others is)))
  ]
]

none_more : (q : ParamValue) (x : Option (List ParamValue)) → option_map (λ (others : List ParamValue). q ∷ others) x ≡ None → x ≡ None
none_more q None e = refl
none_more q (Some others) e = absurd cc

is_there : (p : ParamValue) (qs : List ParamValue) → with_param p qs ≡ None → 1 ≤ count p.key qs
is_there p [] e = absurd cc
is_there p (q ∷ qs) e = elim (cases_Bool (p.key == q.key)) [
  | inl same ↦
      let is : q.key ≡ p.key = grind arith in
      omega (arith, more p.key q qs, unit_is p.key q is)
  | inr other ↦ elim (cases_Bool (nat_lt p.key q.key)) [
    | inl before ↦ let no : Some (p ∷ q ∷ qs) ≡ None = rw (other, before) at e in absurd cc
    | inr after ↦
        let rest : option_map (λ (others : List ParamValue). q ∷ others) (with_param p qs) ≡ None = rw (other, after) at e in
        omega (arith, more p.key q qs, is_there p qs (none_more q (with_param p qs) rest))
  ]
]

-- ---- all parameters

step_moves : (p : ParamValue) (done all ps : List ParamValue) → with_param p done ≡ Some all → IsPermutation (done ++ p ∷ ps) (all ++ ps)
step_moves p done all ps e =
    IsPermutation-trans (done ++ p ∷ ps) (p ∷ (done ++ ps)) (all ++ ps) (IsPermutation-middle done p ps) (IsPermutation-append_left ps (p ∷ done) all (with_moves p done all e))

order_step : (x : Option (List ParamValue)) (ps own : List ParamValue) → and_then x (λ all. in_key_order all ps) ≡ Some own
    → (all : List ParamValue) × (x ≡ Some all) × (in_key_order all ps ≡ Some own)
order_step None ps own e = let no : None ≡ Some own = e in absurd cc
order_step (Some all) ps own e = (all, refl, e)

order_moves : (done ps own : List ParamValue) → in_key_order done ps ≡ Some own → IsPermutation (done ++ ps) own
order_moves done [] own e = subst (λ (xs : List ParamValue). IsPermutation xs own) (sym (append-nil done)) (subst (IsPermutation done) (same_Some done own e) (IsPermutation-refl done))
order_moves done (p ∷ ps) own e =
    let (all, put, rest) = order_step (with_param p done) ps own e in
    IsPermutation-trans (done ++ p ∷ ps) (all ++ ps) own (step_moves p done all ps put) (order_moves all ps own rest)

twice_step : (x : Option (List ParamValue)) (p : ParamValue) (done ps : List ParamValue) → with_param p done ≡ x → and_then x (λ all. in_key_order all ps) ≡ None
    → ((all : List ParamValue) → in_key_order all ps ≡ None → (k : ℕ) × (2 ≤ count k (all ++ ps))) → (k : ℕ) × (2 ≤ count k (done ++ p ∷ ps))
twice_step None p done ps e none on =
    (p.key, omega (arith, both p.key done (p ∷ ps), more p.key p ps, unit_is p.key p refl, is_there p done e))
twice_step (Some all) p done ps e none on =
    let (k, two) = on all none in (k, omega (arith, two, moved k (done ++ p ∷ ps) (all ++ ps) (step_moves p done all ps e)))

twice : (done ps : List ParamValue) → in_key_order done ps ≡ None → (k : ℕ) × (2 ≤ count k (done ++ ps))
twice done [] e = let no : Some done ≡ None = e in absurd cc
twice done (p ∷ ps) e = twice_step (with_param p done) p done ps refl e (λ all none. twice all ps none)

-- ---- lists that ascend

at_first : (q x : ParamValue) (b : List ParamValue) → Contains (q ∷ b) x → (x ≡ q) ⊎ Contains b x
at_first q x b (zero, lt, is) = inl (sym is)
at_first q x b (suc k, lt, is) = inr (k, omega (arith, lt), is)

at_next : (q x : ParamValue) (b : List ParamValue) → Contains b x → Contains (q ∷ b) x
at_next q x b (k, lt, is) = (suc k, omega (arith, lt), is)

head_there : (q : ParamValue) (b : List ParamValue) → Contains (q ∷ b) q
head_there q b = (0, omega arith, refl)

none_there : (x : ParamValue) → Contains [] x → ⊥
none_there x (k, lt, is) = omega (arith, lt)

from_least : (least : ℕ) (x : ParamValue) (a : List ParamValue) → AreAscending least a → Contains a x → least ≤ x.key
from_least least x [] up is = absurd (none_there x is)
from_least least x (p ∷ a) up is = elim (at_first p x a is) [
  | inl same ↦ omega (arith, up.0, ap (λ (y : ParamValue). y.key) same)
  | inr later ↦ omega (arith, up.0, from_least (p.key + 1) x a up.1 later)
]

tails : (p : ParamValue) (a b : List ParamValue) → AreAscending (p.key + 1) a → ((x : ParamValue) → Contains (p ∷ a) x → Contains (p ∷ b) x)
    → (x : ParamValue) → Contains a x → Contains b x
tails p a b up into x is = elim (at_first p x b (into x (at_next p x a is))) [
  | inl same ↦ absurd (omega (arith, from_least (p.key + 1) x a up is, ap (λ (y : ParamValue). y.key) same))
  | inr later ↦ later
]

one_first : (p q : ParamValue) (a b : List ParamValue) → AreAscending (p.key + 1) a → AreAscending (q.key + 1) b → Contains (q ∷ b) p → Contains (p ∷ a) q → p ≡ q
one_first p q a b up also is back = elim (at_first q p b is) [
  | inl same ↦ same
  | inr later ↦ elim (at_first p q a back) [
    | inl same ↦ sym same
    | inr after ↦ absurd (omega (arith, from_least (q.key + 1) p b also later, from_least (p.key + 1) q a up after))
  ]
]

same_members : (least : ℕ) (a b : List ParamValue) → AreAscending least a → AreAscending least b → ((x : ParamValue) → Contains a x → Contains b x)
    → ((x : ParamValue) → Contains b x → Contains a x) → a ≡ b
same_members least [] [] up also into back = refl
same_members least [] (q ∷ b) up also into back = absurd (none_there q (back q (head_there q b)))
same_members least (p ∷ a) [] up also into back = absurd (none_there p (into p (head_there p a)))
same_members least (p ∷ a) (q ∷ b) up also into back =
    let same : p ≡ q = one_first p q a b up.1 also.1 (into p (head_there p a)) (back q (head_there q b)) in
    let on : AreAscending (p.key + 1) b = subst (λ (x : ParamValue). AreAscending (x.key + 1) b) (sym same) also.1 in
    let there : (x : ParamValue) → Contains (p ∷ a) x → Contains (p ∷ b) x = subst (λ (y : ParamValue). (x : ParamValue) → Contains (p ∷ a) x → Contains (y ∷ b) x) (sym same) into in
    let here : (x : ParamValue) → Contains (p ∷ b) x → Contains (p ∷ a) x = subst (λ (y : ParamValue). (x : ParamValue) → Contains (y ∷ b) x → Contains (p ∷ a) x) (sym same) back in
    let rest = same_members (p.key + 1) a b up.1 on (tails p a b up.1 there) (tails p b a on here) in
    ap (λ (x : ParamValue). x ∷ a) same ∙ ap (λ (xs : List ParamValue). q ∷ xs) rest

-- ---- what a sort gives

rises : (n : ParamValue → ℕ) (p : ParamValue) (ps : List ParamValue) → IsNonDecreasingBy n (p ∷ ps) → IsNonDecreasingBy n ps
rises n p ps h i j d le lt = h (suc i) (suc j) d (omega (arith, le)) (omega (arith, lt))

up_from : (least : ℕ) (ps : List ParamValue) → IsNonDecreasingBy (λ (p : ParamValue). p.key) ps → ((p : ParamValue) (others : List ParamValue) → ps ≡ p ∷ others → least ≤ p.key)
    → ((k : ℕ) → count k ps ≤ 1) → AreAscending least ps
up_from least [] h low once = tt
up_from least (p ∷ ps) h low once = (
  low p ps refl,
  up_from (p.key + 1) ps (rises (λ (p : ParamValue). p.key) p ps h) (next p ps h once) (λ k. omega (arith, once k, more k p ps)),
)
  where
    next : (p : ParamValue) (ps : List ParamValue) → IsNonDecreasingBy (λ (p : ParamValue). p.key) (p ∷ ps) → ((k : ℕ) → count k (p ∷ ps) ≤ 1)
        → (q : ParamValue) (others : List ParamValue) → ps ≡ q ∷ others → p.key + 1 ≤ q.key
    next p ps h once q others e =
        let all : IsNonDecreasingBy (λ (p : ParamValue). p.key) (p ∷ q ∷ others) = subst (λ (xs : List ParamValue). IsNonDecreasingBy (λ (p : ParamValue). p.key) (p ∷ xs)) e h in
        let le : p.key ≤ q.key = all 0 1 p (omega arith) (omega arith) in
        let few : count p.key (p ∷ q ∷ others) ≤ 1 = subst (λ (xs : List ParamValue). count p.key (p ∷ xs) ≤ 1) e (once p.key) in
        elim (cases_Bool (q.key == p.key)) [
          | inl same ↦
              let is : q.key ≡ p.key = grind arith in
              absurd (omega (arith, few, more p.key p (q ∷ others), more p.key q others, unit_is p.key p refl, unit_is p.key q is))
          | inr other ↦ let apart : q.key ≡ p.key → ⊥ = λ e. (let no : (q.key == p.key) ≡ true = grind arith in cc) in omega (arith, le, apart)
        ]

pub ascends : (least : ℕ) (ps : List ParamValue) → ascend least ps ≡ true → AreAscending least ps
ascends least [] h = tt
ascends least (p ∷ ps) h =
    let parts = and_parts (nat_le least p.key) (ascend (p.key + 1) ps) h in (leb-true least p.key parts.0, ascends (p.key + 1) ps parts.1)

pub is_ascending : (least : ℕ) (ps : List ParamValue) → AreAscending least ps → ascend least ps ≡ true
is_ascending least [] up = refl
is_ascending least (p ∷ ps) up = rw (le-leb least p.key up.0) (is_ascending (p.key + 1) ps up.1)

pub sorted_all : (old new : List ParamValue) → IsPermutation old new → ascend 0 new ≡ true → in_key_order [] old ≡ Some new
sorted_all old new moves h = by (in_key_order [] old) refl
  where
    up : AreAscending 0 new
    up = ascends 0 new h

    by : (x : Option (List ParamValue)) → in_key_order [] old ≡ x → x ≡ Some new
    by None e =
        let (k, two) = twice [] old e in
        absurd (omega (arith, two, moved k old new moves, at_most_once 0 k new up))
    by (Some own) e =
        let mine = order_moves [] old own e in
        let there = IsPermutation-trans own old new (IsPermutation-sym old own mine) moves in
        let back = IsPermutation-sym own new there in
        ap Some (same_members 0 own new (order_ascends [] old own tt e) up (λ x is. Contains-permutation own new x there is) (λ x is. Contains-permutation new own x back is))

pub sorted_none : (old new : List ParamValue) → IsPermutation old new → IsNonDecreasingBy (λ (p : ParamValue). p.key) new → ascend 0 new ≡ false → in_key_order [] old ≡ None
sorted_none old new moves rising h = by (in_key_order [] old) refl
  where
    by : (x : Option (List ParamValue)) → in_key_order [] old ≡ x → x ≡ None
    by None e = refl
    by (Some own) e =
        let mine = order_moves [] old own e in
        let few : (k : ℕ) → count k new ≤ 1 = λ k. omega (arith, moved k old new moves, moved k old own mine, at_most_once 0 k own (order_ascends [] old own tt e)) in
        let up = up_from 0 new rising (λ p others is. omega arith) few in
        let no : false ≡ true = sym h ∙ is_ascending 0 new up in
        absurd cc

pub sorts : (old new : List ParamValue) (b : Bool) → IsPermutation old new → IsNonDecreasingBy (λ (p : ParamValue). p.key) new → b ≡ ascend 0 new → Sorts old new b
sorts old new true moves rising e = sorted_all old new moves (sym e)
sorts old new false moves rising e = sorted_none old new moves rising (sym e)

-- Parameters in the order of their keys.
use Rattle.std.proofs.Common.{◌≡◌, ◌≤◌, ◌<◌, ℕ, ◌+◌, ◌==◌, true, false, List, [], ◌∷◌, ◌++◌, refl, sym, subst, arith, inl, inr}
use Rattle.std.specs.Prelude.{nat_lt, Option, Some, None, option_map}
use Rattle.std.proofs.lemmas.Bool.{cases_Bool, ne_eqb}
use Rattle.std.proofs.lemmas.Option.{same_Some}
use Rattle.dnw_zone_values.specs.Params.{ParamValue, with_param, and_then, in_key_order, AreAscending}
use Rattle.dnw_zone_values.specs.Inside.Steps.{AreBelow}

not_before : (a b : ℕ) → b ≤ a → nat_lt a b ≡ false
not_before a b h = grind arith

pub with_last : (p : ParamValue) (done : List ParamValue) → AreBelow p.key done → with_param p done ≡ Some (done ++ p ∷ [])
with_last p [] h = refl
with_last p (q ∷ done) h = rw (ne_eqb p.key q.key (omega (arith, h.0)), not_before p.key q.key (omega (arith, h.0)), with_last p done h.1) refl

pub put_more : (q : ParamValue) (qs more : List ParamValue) (x : Option (List ParamValue)) → option_map (λ (others : List ParamValue). q ∷ others) x ≡ Some more
    → (others : List ParamValue) × (x ≡ Some others) × (more ≡ q ∷ others)
put_more q qs more None e = let no : None ≡ Some more = e in absurd cc
put_more q qs more (Some others) e = (others, refl, sym (same_Some (q ∷ others) more e))

pub below : (a b : ℕ) → nat_lt a b ≡ true → a < b
below a b h = grind arith

above : (a b : ℕ) → (a == b) ≡ false → nat_lt a b ≡ false → b + 1 ≤ a
above a b other after = grind arith

pub with_ascends : (least : ℕ) (p : ParamValue) (ps more : List ParamValue) → least ≤ p.key → AreAscending least ps → with_param p ps ≡ Some more
    → AreAscending least more
with_ascends least p [] more low up e = subst (AreAscending least) (same_Some (p ∷ []) more e) (low, tt)
with_ascends least p (q ∷ qs) more low up e = elim (cases_Bool (p.key == q.key)) [
  | inl same ↦ let no : None ≡ Some more = rw same at e in cc
  | inr other ↦ elim (cases_Bool (nat_lt p.key q.key)) [
    | inl before ↦
        let put : Some (p ∷ q ∷ qs) ≡ Some more = rw (other, before) at e in
        subst (AreAscending least) (same_Some (p ∷ q ∷ qs) more put) (low, (omega (arith, below p.key q.key before), up.1))
    | inr after ↦
        let rest : option_map (λ (others : List ParamValue). q ∷ others) (with_param p qs) ≡ Some more = rw (other, after) at e in
        let (others, is, whole) = put_more q qs more (with_param p qs) rest in
        subst (AreAscending least) (sym whole) (up.0, with_ascends (q.key + 1) p qs others (above p.key q.key other after) up.1 is)
  ]
]

order_step : (x : Option (List ParamValue)) (ps own : List ParamValue) → ((more : List ParamValue) → x ≡ Some more → in_key_order more ps ≡ Some own → AreAscending 0 own)
    → and_then x (λ more. in_key_order more ps) ≡ Some own → AreAscending 0 own
order_step None ps own h e = let no : None ≡ Some own = e in absurd cc
order_step (Some more) ps own h e = h more refl e

pub order_ascends : (done ps own : List ParamValue) → AreAscending 0 done → in_key_order done ps ≡ Some own → AreAscending 0 own
order_ascends done [] own up e = subst (AreAscending 0) (same_Some done own e) up
order_ascends done (p ∷ ps) own up e =
    order_step (with_param p done) ps own (λ more put rest. order_ascends more ps own (with_ascends 0 p done more (omega arith) up put) rest) e

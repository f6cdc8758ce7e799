-- Octets that begin with others, in plain order.
use Rattle.std.proofs.Common.{◌≡◌, ℕ, ◌<◌, Bool, true, false, List, [], ◌∷◌, ◌++◌, refl, sym, ap, ◌∙◌, inl, inr, arith, true≢false}
use Rattle.std.proofs.lemmas.Bool.{cases_lt}
use Rattle.std.specs.Cmp.{nat_cmp_is}
use Rattle.std.specs.Ordering.{is_lt, nat_cmp, ordering_then}
use Rattle.std.specs.declared.cmp.Ordering.{Ordering}
use Rattle.std.specs.declared.cmp.Ordering.TheVariants.{Less, Equal, Greater}
use Rattle.dns_names_wire.specs.Words.{octets_cmp}

-- Neither of two octets is before the other, and what is after them decides.
first_same : (a b : ℕ) (u v : Ordering) → is_lt (ordering_then (nat_cmp b a) u) ≡ false → is_lt (ordering_then (nat_cmp a b) v) ≡ false
    → (b ≡ a) × (is_lt u ≡ false) × (is_lt v ≡ false)
first_same a b u v h g = elim (cases_lt a b) [
  | inl below ↦ absurd (true≢false (rw (sym (nat_cmp_is a b Less below)) at g))
  | inr above ↦ elim (cases_lt b a) [
    | inl less ↦ absurd (true≢false (rw (sym (nat_cmp_is b a Less less)) at h))
    | inr more ↦
        let same : b ≡ a = omega arith in
        let back : a ≡ b = omega arith in (
          same,
          rw (sym (nat_cmp_is b a Equal same)) at h,
          rw (sym (nat_cmp_is a b Equal back)) at g,
        )
  ]
]

-- Octets are not before those that they begin with.
pub not_before_front : (front rest : List ℕ) → is_lt (octets_cmp (front ++ rest) front) ≡ false
not_before_front [] [] = refl
not_before_front [] (x ∷ rest) = refl
not_before_front (a ∷ front) rest = rw (sym (nat_cmp_is a a Equal refl)) (not_before_front front rest)

-- What is between octets and others that begin with them begins with them too.
pub begins_between : (front other rest : List ℕ) → is_lt (octets_cmp other front) ≡ false → is_lt (octets_cmp (front ++ rest) other) ≡ false
    → (more : List ℕ) × (other ≡ front ++ more)
begins_between [] other rest h g = (other, refl)
begins_between (a ∷ front) [] rest h g = absurd (true≢false h)
begins_between (a ∷ front) (b ∷ other) rest h g =
    let (same, lower, upper) = first_same a b (octets_cmp other front) (octets_cmp (front ++ rest) other) h g in
    let (more, is) = begins_between front other rest lower upper in
    (more, ap (λ c. c ∷ other) same ∙ ap (λ (os : List ℕ). a ∷ os) is)

-- What two values have in common that an order of their parts does not tell apart.
use Rattle.std.proofs.Common.{◌≡◌, ℕ, ◌<◌, Bool, true, false, IsTrue, refl, subst}
use Rattle.std.specs.Ordering.{nat_cmp, bool_cmp, is_eq, ordering_then, MatchOrdering}
use Rattle.std.specs.declared.cmp.Ordering.{Ordering}
use Rattle.std.specs.declared.cmp.Ordering.TheVariants.{Less, Equal, Greater}
use Rattle.std.proofs.lemmas.Cmp.{ranked}

pub numbers_tied : (x y : ℕ) → nat_cmp x y ≡ Equal → x ≡ y
numbers_tied x y h = subst (λ o. MatchOrdering o (x < y) (x ≡ y) (y < x)) h (ranked x y (nat_cmp x y) refl)

pub flags_tied : (x y : Bool) → bool_cmp x y ≡ Equal → x ≡ y
flags_tied true true h = refl
flags_tied false false h = refl
flags_tied true false h = cc
flags_tied false true h = cc

pub both_tied : (a b : Ordering) → IsTrue (is_eq (ordering_then a b)) → (a ≡ Equal) × (b ≡ Equal)
both_tied Equal Equal h = (refl, refl)
both_tied Equal Less h = cc
both_tied Equal Greater h = cc
both_tied Less b h = cc
both_tied Greater b h = cc

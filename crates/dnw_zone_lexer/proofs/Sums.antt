-- The seconds of a time, group by group.
use Rattle.std.proofs.Common.{◌≡◌, ℕ, ◌+◌, ◌-◌, ◌*◌, ◌<◌, ◌≤◌, Bool, true, false, Option, Some, None, option_map, List, [], ◌∷◌, length, refl, sym, subst, arith}
use Rattle.std.proofs.lemmas.List.Sums.{sum_by-cons}
use Rattle.std.proofs.Math.Nat.{mul-le-mul_left}
use Rattle.std.specs.Char.{is_ascii_digit}
use Rattle.dnw_zone_lexer.specs.Times.{max_ttl, unit_seconds, with_group, groups_after, total_seconds, time_seconds, IsNoTtl}
use Rattle.dnw_zone_lexer.specs.Inside.Finds.{seconds_after}

total_cons : (n w : ℕ) (groups : List (ℕ × ℕ)) → total_seconds ((n, w) ∷ groups) ≡ n * w + total_seconds groups
total_cons n w groups = sum_by-cons (λ g. g.0 * g.1) (n, w) groups

joined : (total n w : ℕ) (groups : Option (List (ℕ × ℕ))) → option_map (λ gs. total + total_seconds gs) (with_group n (Some w) groups) ≡ option_map (λ gs. (total + n * w) + total_seconds gs) groups
joined total n w groups = grind (arith, total_cons)

-- a unit ends its group
pub after_unit : (total n c w : ℕ) (cs : List ℕ) → is_ascii_digit c ≡ false → unit_seconds c ≡ Some w → seconds_after total (Some n) (c ∷ cs) ≡ seconds_after (total + n * w) None cs
after_unit total n c w cs h u = rw (h, u) (joined total n w (groups_after None cs))

unit_some : (c w : ℕ) → unit_seconds c ≡ Some w → 1 ≤ w
unit_some c w e = grind arith

-- The seconds are no fewer than those so far, nor than the number.
pub too_many : (total : ℕ) (cs : List ℕ) → max_ttl < total → IsNoTtl (seconds_after total None cs)
too_many total cs h = grind arith

at_next : (total n c : ℕ) (cs : List ℕ) (d : Bool) (u : Option ℕ) → is_ascii_digit c ≡ d → unit_seconds c ≡ u → max_ttl < n
    → IsNoTtl (seconds_after total (Some (10 * n + (c - 48))) cs) → IsNoTtl (seconds_after total (Some n) (c ∷ cs))
at_next total n c cs true u h e lt ih = rw h ih
at_next total n c cs false None h e lt ih = rw (h, e) tt
at_next total n c cs false (Some w) h e lt ih =
    subst IsNoTtl (sym (after_unit total n c w cs h e)) (too_many (total + n * w) cs (omega (arith, mul-le-mul_left n (unit_some c w e))))

pub too_great : (total n : ℕ) (cs : List ℕ) → max_ttl < n → IsNoTtl (seconds_after total (Some n) cs)
too_great total n [] lt = omega (arith, total_cons n 1 [])
too_great total n (c ∷ cs) lt = at_next total n c cs _ _ refl refl lt (too_great total (10 * n + (c - 48)) cs (omega arith))

from_zero : (groups : Option (List (ℕ × ℕ))) → option_map (λ gs. 0 + total_seconds gs) groups ≡ option_map total_seconds groups
from_zero groups = grind arith

pub from_start : (text : List ℕ) → (length text ≡ 0 → ⊥) → seconds_after 0 None text ≡ time_seconds text
from_start [] some = absurd (some refl)
from_start (c ∷ cs) some = from_zero (groups_after None (c ∷ cs))

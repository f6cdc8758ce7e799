-- The order of classes tells any two apart.
use Rattle.std.proofs.Common.{◌≡◌, ℕ, zero, suc, IsTrue, refl, sym, ap, ◌∙◌}
use Rattle.std.specs.Ordering.{nat_cmp, eq_by_cmp, ordering_then}
use Rattle.dnw_base.specs.declared.dns_class.DNSClass.{DNSClass}
use Rattle.dnw_base.specs.declared.dns_class.DNSClass.TheVariants.{OPT, Unknown}
use Rattle.dnw_base.specs.DnsClasses.{class_code, class_of_code, class_rank, class_number, class_cmp, class_hash}
use Rattle.dnw_base.specs.Inside.Ties.{numbers_tied, both_tied}

-- a class from its code, its rank and its number
class_from : ℕ → ℕ → ℕ → DNSClass
class_from code zero number = class_of_code code
class_from code (suc zero) number = OPT number
class_from code (suc (suc rank)) number = Unknown number

from_itself : (class : DNSClass) → class_from (class_code class) (class_rank class) (class_number class) ≡ class
unfolding class_from class_of_code
from_itself (OPT size) = refl
from_itself (Unknown code) = refl
from_itself class = refl

pub classes_tied : (x y : DNSClass) → IsTrue (eq_by_cmp class_cmp x y) → x ≡ y
classes_tied x y h =
    let ranks = nat_cmp (class_rank x) (class_rank y) in
    let numbers = nat_cmp (class_number x) (class_number y) in
    let first = both_tied (nat_cmp (class_code x) (class_code y)) (ordering_then ranks numbers) h in
    let code : class_code x ≡ class_code y = numbers_tied (class_code x) (class_code y) first.0 in
    let second = both_tied ranks numbers (simp first.1 refl) in
    let rank : class_rank x ≡ class_rank y = numbers_tied (class_rank x) (class_rank y) second.0 in
    let number : class_number x ≡ class_number y = numbers_tied (class_number x) (class_number y) second.1 in
    sym (from_itself x)
    ∙ (ap (λ n. class_from n (class_rank x) (class_number x)) code
    ∙ (ap (λ n. class_from (class_code y) n (class_number x)) rank ∙ (ap (class_from (class_code y) (class_rank y)) number ∙ from_itself y)))

pub classes_hash_alike : (x y : DNSClass) → IsTrue (eq_by_cmp class_cmp x y) → class_hash x ≡ class_hash y
classes_hash_alike x y h = ap class_hash (classes_tied x y h)

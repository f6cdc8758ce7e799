-- The order of record types tells any two apart.
use Rattle.std.proofs.Common.{◌≡◌, ℕ, Bool, true, false, IsTrue, refl, sym, ap, ◌∙◌}
use Rattle.std.specs.Ordering.{nat_cmp, bool_cmp, eq_by_cmp}
use Rattle.std.specs.Cmp.{IsTotalOrder, IsEquivalence, on_total, then_total, eq_by_cmp_equiv, nat_cmp_total, bool_cmp_total}
use Rattle.dnw_base.specs.declared.record_type.RecordType.{RecordType}
use Rattle.dnw_base.specs.declared.record_type.RecordType.TheVariants.{Unknown}
use Rattle.dnw_base.specs.RecordTypes.{type_code, type_of_code, is_unknown, type_cmp, type_hash}
use Rattle.dnw_base.specs.Inside.Ties.{numbers_tied, flags_tied, both_tied}

-- a type from its code, and whether it has no name
type_from : ℕ → Bool → RecordType
type_from code true = Unknown code
type_from code false = type_of_code code

from_itself : (record_type : RecordType) → type_from (type_code record_type) (is_unknown record_type) ≡ record_type
unfolding type_from type_of_code
from_itself (Unknown code) = refl
from_itself record_type = refl

pub types_tied : (x y : RecordType) → IsTrue (eq_by_cmp type_cmp x y) → x ≡ y
types_tied x y h =
    let tied = both_tied (nat_cmp (type_code x) (type_code y)) (bool_cmp (is_unknown x) (is_unknown y)) h in
    let code : type_code x ≡ type_code y = numbers_tied (type_code x) (type_code y) tied.0 in
    let unknown : is_unknown x ≡ is_unknown y = flags_tied (is_unknown x) (is_unknown y) tied.1 in
    sym (from_itself x) ∙ (ap (λ n. type_from n (is_unknown x)) code ∙ (ap (type_from (type_code y)) unknown ∙ from_itself y))

pub types_hash_alike : (x y : RecordType) → IsTrue (eq_by_cmp type_cmp x y) → type_hash x ≡ type_hash y
types_hash_alike x y h = ap type_hash (types_tied x y h)

pub types_total : IsTotalOrder type_cmp
types_total = then_total (on_total type_code nat_cmp_total) (on_total is_unknown bool_cmp_total)

pub types_equal : IsEquivalence (eq_by_cmp type_cmp)
types_equal = eq_by_cmp_equiv types_total

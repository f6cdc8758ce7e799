-- The laws of the order, equality and hash of keys.
use Rattle.std.specs.Prelude.{◌≡◌, ◌++◌}
use Rattle.std.proofs.Common.{IsTrue, refl, ap, ◌∙◌}
use Rattle.std.specs.Ordering.{eq_by_cmp, as_partial_cmp}
use Rattle.std.specs.Cmp.{IsTotalOrder, IsPartialOrder, IsEquivalence, IsPartialEquivalence, po, then_total, on_total, and_equiv, on_equiv, partial_equiv_from_equiv, both_tied, first_so, second_so}
use Rattle.std.specs.Hash.{HashWrites}
use Rattle.dnw_base.specs.RecordTypes.{type_cmp, type_hash}
use Rattle.dnw_base.specs.Inside.RecordTypeLaws.{types_hash_alike, types_total, types_equal}
use Rattle.dnw_name_order.specs.Order.{name_cmp_case, name_eq_case}
use Rattle.dnw_name_order.specs.OrderLaws.{name_cmp_case_total, name_eq_case_equiv, name_case_ties}
use Rattle.dnw_name_zones.specs.LowerNames.{lower_name_hash_input, lower_name_hash_alike}
use Rattle.dnw_name_zones.specs.declared.rr_key.RrKey.{RrKey}
use Rattle.dnw_name_zones.specs.Keys.{key_cmp, key_eq, key_hash}

pub keys_total : IsTotalOrder key_cmp
keys_total = then_total (on_total (λ (k : RrKey). k.name) name_cmp_case_total) (on_total (λ (k : RrKey). k.record_type) types_total)

pub keys_equal : IsEquivalence key_eq
keys_equal = and_equiv (on_equiv (λ (k : RrKey). k.name) name_eq_case_equiv) (on_equiv (λ (k : RrKey). k.record_type) types_equal)

pub keys_per : IsPartialEquivalence key_eq
keys_per = partial_equiv_from_equiv keys_equal

-- keys are equal if they compare as equal
pub keys_tied : (x y : RrKey) → key_eq x y ≡ eq_by_cmp key_cmp x y
keys_tied x y =
    both_tied (name_eq_case x.name y.name) (eq_by_cmp type_cmp x.record_type y.record_type) (name_cmp_case x.name y.name) (type_cmp x.record_type y.record_type)
    (name_case_ties x.name y.name) refl

pub keys_ordered : IsPartialOrder key_eq (as_partial_cmp key_cmp)
keys_ordered = po keys_total keys_tied

-- equal keys are fed to a hasher alike
pub keys_hash_alike : (x y : RrKey) → IsTrue (key_eq x y) → key_hash x ≡ key_hash y
keys_hash_alike x y e =
    let name = name_eq_case x.name y.name in
    let kind = eq_by_cmp type_cmp x.record_type y.record_type in
    ap (λ (name : HashWrites). name ++ type_hash x.record_type) (lower_name_hash_alike x.name y.name (first_so name kind e))
    ∙ ap (λ (kind : HashWrites). lower_name_hash_input y.name ++ kind) (types_hash_alike x.record_type y.record_type (second_so name kind e))

-- The laws of equality and hashes of type sets.
use Rattle.std.specs.Prelude.{Bool}
use Rattle.std.proofs.Common.{IsTrue, ◌≡◌}
use Rattle.std.specs.Ordering.{eq_by_cmp}
use Rattle.std.specs.Cmp.{IsEquivalence, IsPartialEquivalence, on_equiv, partial_equiv_from_equiv}
use Rattle.std.specs.Cmp.Lexicographic.{pointwise, lists_equiv}
use Rattle.std.specs.Hash as fed
use Rattle.std.specs.Hash.{HashWrites, on_Alike, items_Alike}
use Rattle.dnw_base.specs.RecordTypes.{type_cmp, type_hash}
use Rattle.dnw_base.specs.Inside.RecordTypeLaws.{types_hash_alike, types_equal}
use Rattle.dnw_data.specs.TypeSets.{TypeSet}

abbrev pub sets_eq : TypeSet → TypeSet → Bool
sets_eq a b = pointwise (eq_by_cmp type_cmp) a.types b.types

pub sets_equal : IsEquivalence sets_eq
sets_equal = on_equiv (λ (s : TypeSet). s.types) (lists_equiv types_equal)

pub sets_per : IsPartialEquivalence sets_eq
sets_per = partial_equiv_from_equiv sets_equal

abbrev pub sets_hash : TypeSet → HashWrites
sets_hash s = fed.slice type_hash s.types

pub sets_hash_alike : (a b : TypeSet) → IsTrue (sets_eq a b) → sets_hash a ≡ sets_hash b
sets_hash_alike = (on_Alike (λ (s : TypeSet). s.types) (items_Alike (record { fed = types_hash_alike }))).fed

use Rattle.std.proofs.Common.{◌∷◌, drop}
use Rattle.std.specs.List.Sorted.{IsStrictlySortedBy}
use Rattle.dnw_base.specs.RecordTypes.{type_cmp}
use Rattle.dnw_data.proofs.record_type_set.is_ascending.Given as goal

-- if the last type and those that are left ascend, all do
abbrev pub invariant-loop-record_type : goal.invariant-loop-record_type
invariant-loop-record_type l = IsStrictlySortedBy type_cmp (l.last ∷ drop l.record_type-index l.others) → IsStrictlySortedBy type_cmp l.types

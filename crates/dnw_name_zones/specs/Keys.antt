-- Keys of sets of records: their order, equality and hash.
use Rattle.std.specs.Prelude.{Bool, ◌++◌}
use Rattle.std.specs.Ordering.{on, then_cmp, eq_of_both, eq_by_cmp}
use Rattle.std.specs.Hash.{HashWrites}
use Rattle.std.specs.declared.cmp.Ordering.{Ordering}
use Rattle.dnw_base.specs.RecordTypes.{type_cmp, type_hash}
use Rattle.dnw_name_order.specs.Order.{name_cmp_case, name_eq_case}
use Rattle.dnw_name_zones.specs.LowerNames.{lower_name_hash_input}
use Rattle.dnw_name_zones.specs.declared.rr_key.RrKey.{RrKey}

-- by name, in canonical order (RFC 4034, section 6.1), and then by type
abbrev pub key_cmp : RrKey → RrKey → Ordering
key_cmp = then_cmp (on (λ k. k.name) name_cmp_case) (on (λ k. k.record_type) type_cmp)

-- the same name and the same type
abbrev pub key_eq : RrKey → RrKey → Bool
key_eq = eq_of_both (on (λ k. k.name) name_eq_case) (on (λ k. k.record_type) (eq_by_cmp type_cmp))

-- A key is fed to a hasher as its name and then its type.
abbrev pub key_hash : RrKey → HashWrites
key_hash k = lower_name_hash_input k.name ++ type_hash k.record_type

use Rattle.std.specs.List.Sorted.{IsSortedWithin}
use Rattle.std.specs.Ordering.{is_lt}
use Rattle.dnw_name_order.specs.Order.{labels_cmp}
use Rattle.dnw_zone_checks.proofs.lookup.out_of_order.Given as goal

abbrev pub invariant-records : goal.invariant-records
invariant-records l = IsSortedWithin (λ r s. is_lt (labels_cmp r.owner s.owner)) l.records 0 l.i

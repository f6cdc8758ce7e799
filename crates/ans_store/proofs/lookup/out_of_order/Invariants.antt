use Rattle.std.specs.List.Sorted.{IsSortedWithin}
use Rattle.std.specs.Ordering.{is_lt}
use Rattle.dns_names_wire.specs.Words.{labels_cmp}
use Rattle.ans_store.proofs.lookup.out_of_order.Given as goal

abbrev pub invariant-records : goal.invariant-records
invariant-records l = IsSortedWithin (λ r s. is_lt (labels_cmp r.owner s.owner)) l.records 0 l.number

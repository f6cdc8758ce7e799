use Rattle.std.proofs.Common.{rules}
use Rattle.std.specs.Ordering.{is_lt}
use Rattle.std.proofs.lemmas.Fn.{always_returns_same}
use Rattle.std.proofs.lemmas.List.Sorted.{ranks_by}
use Rattle.dnw_name_order.specs.Inside.Keyed.{entry_cmp}
use Rattle.dnw_name_order.proofs.Numbers.{entries_total}
use Rattle.dnw_name_order.proofs.sorting.by_keys.Goals as goal

pub returns-clause-sorted : goal.returns-clause-sorted
returns-clause-sorted c = record {
  moved = c.sort_unstable_by.ensures.permutation;
  ascend = c.sort_unstable_by.ensures.sorted (λ x y. is_lt (entry_cmp x y)) (ranks_by entries_total (λ x. x)) (always_returns_same _ _ _ (λ a r f k. search rules));
}

use Rattle.std.proofs.Common.{◌∙◌}
use Rattle.dnw_name_order.proofs.Numbers.{in_order}
use Rattle.dnw_name_order.proofs.sorting.SortKeys.sorted.Goals as goal

pub returns-clause-in_order : goal.returns-clause-in_order
returns-clause-in_order c = λ names keyed.
    in_order names c.self.inside.entries.items c.by_keys.result.items c.self.invariant c.by_keys.ensures.sorted (c.self.view_is ∙ keyed)

-- The name in the middle decides for those before it, or for those after it.
use Rattle.std.proofs.Common.{◌+◌, ◌-◌, ◌/◌, ◌<◌, length, arith}
use Rattle.uses.proofs.TableOrder.{compares, greater_after, less_before}
use Rattle.uses.proofs.table.NameTable.find.Goals as goal

pub search-preserved-in-Less : goal.search-preserved-in-Less
search-preserved-in-Less c =
    let (order, within, ascend, before, after) = c.search.invariant in
    let middle = c.search.low + (c.search.high - c.search.low) / 2 in
    let less : middle < length c.args.self.now = omega (arith, within, c.search-test.true) in (
      omega (arith, c.search-test.true),
      within,
      ascend,
      λ k d from below. less_before c.args.self.now ascend c.args.name.now.labels middle less d
          (compares c.args.self.now c.args.name.now.labels c.name_at.result middle c.cmp_name.result _ c.name_at.ensures c.cmp_name.ensures c.in-Less.is d) k (omega (arith, below)),
      after,
    )

pub returns-in-Equal-clause-found : goal.returns-in-Equal-clause-found
returns-in-Equal-clause-found c =
    let (order, within, ascend, before, after) = c.search.invariant in (
      omega (arith, within, c.search-test.true),
      compares c.args.self.now c.args.name.now.labels c.name_at.result _ c.cmp_name.result _ c.name_at.ensures c.cmp_name.ensures c.in-Equal.is,
    )

pub search-preserved : goal.search-preserved
search-preserved c =
    let (order, within, ascend, before, after) = c.search.invariant in
    let middle = c.search.low + (c.search.high - c.search.low) / 2 in
    let less : middle < length c.args.self.now = omega (arith, within, c.search-test.true) in (
      omega arith,
      omega (arith, less),
      ascend,
      before,
      λ k d from below. greater_after c.args.self.now ascend c.args.name.now.labels middle less d
          (compares c.args.self.now c.args.name.now.labels c.name_at.result middle c.cmp_name.result _ c.name_at.ensures c.cmp_name.ensures c.in-Greater.is d) k from below,
    )

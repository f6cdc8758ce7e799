use Rattle.std.proofs.Common.{sym, arith}
use Rattle.ans_store.proofs.Search.{exists_by_first, exists_not}
use Rattle.ans_store.proofs.lookup.exists_from.Goals as goal

pub returns-then-start-len : goal.returns-then-start-len
returns-then-start-len c =
    sym (exists_not c.keys_compare.ensures.labels c.zones_begin.ensures c.args.records.now c.args.name.now.labels c.args.start c.requires.order c.requires.first (omega arith))

pub returns : goal.returns
returns c =
    exists_by_first c.keys_compare.ensures.labels c.zones_begin.ensures c.args.records.now c.args.name.now.labels c.args.start c.get.result c.is_within.result
    c.requires.order c.requires.first (omega arith) c.get.ensures c.is_within.ensures

use Rattle.std.proofs.Common.{sym, ◌∙◌, arith}
use Rattle.ans_store.proofs.Search.{owned_before, owned_to_end, same_more}
use Rattle.ans_store.proofs.lookup.end_of.Goals as goal

pub returns-then-not-is_owner-clause-owned : goal.returns-then-not-is_owner-clause-owned
returns-then-not-is_owner-clause-owned c =
    owned_before c.args.records.now c.args.name.now.labels c.args.start c.owned.end c.get.result c.requires.order c.requires.first c.owned.invariant
    (omega arith) c.get.ensures (sym c.is_owner.ensures ∙ c.if-not-is_owner.true)

pub owned-preserved : goal.owned-preserved
owned-preserved c =
    same_more c.args.records.now c.args.name.now.labels c.args.start c.owned.end c.get.result c.owned.invariant
    (omega arith) c.get.ensures (sym c.is_owner.ensures ∙ c.if-not-is_owner.false)

pub returns-clause-owned : goal.returns-clause-owned
returns-clause-owned c =
    owned_to_end c.args.records.now c.args.name.now.labels c.args.start c.owned.end c.requires.first c.owned.invariant (omega arith)

use Rattle.std.proofs.Common.{◌≡◌, length, sym, ◌∙◌, arith}
use Rattle.ans_answer.proofs.Steps.{met_more, met_none, met_there}
use Rattle.ans_reply.proofs.seen.is_met.Goals as goal

pub returns-then-is_same : goal.returns-then-is_same
returns-then-is_same c =
    sym (met_there c.args.names.now c.args.name.now.labels c.met.met-index c.met-item.result c.met-test.true c.met-item.is (sym c.is_same.ensures ∙ c.if-is_same.true))

pub met-preserved : goal.met-preserved
met-preserved c =
    met_more c.args.names.now c.args.name.now.labels c.met.met-index c.met-item.result c.met-test.true c.met-item.is (sym c.is_same.ensures ∙ c.if-is_same.false)
    c.met.invariant

pub returns : goal.returns
returns c =
    let all : c.met.met-index ≡ length c.args.names.now = omega arith in
    sym (met_none c.args.names.now c.args.name.now.labels c.met.met-index all c.met.invariant)

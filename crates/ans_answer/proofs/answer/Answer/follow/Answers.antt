-- Aliases are followed one by one.
use Rattle.std.proofs.Common.{subst, arith}
use Rattle.ans_answer.specs.Inside.Steps.{LeadsOn, IsSaid}
use Rattle.ans_answer.proofs.Steps.{cut, goes, none_holds, some_holds, stops}
use Rattle.ans_answer.proofs.answer.Answer.follow.Goals as goal

pub returns-in-None : goal.returns-in-None
returns-in-None c =
    stops c.args.zone.now c.args.code c.args.name.now.labels c.aliases.self c.add.new.self c.aliases.number c.aliases.last.labels c.aliases.invariant (omega arith)
    (subst (λ l. IsSaid c.args.zone.now c.args.name.now.labels c.args.code c.aliases.number l c.aliases.self c.add.new.self) c.lead_of-lead.ensures.lead
    (none_holds c.in_ok-next.field-0 c.in-None.is c.in_ok-next.ensures.none))

pub aliases-preserved : goal.aliases-preserved
aliases-preserved c =
    goes c.args.zone.now c.args.code c.args.name.now.labels c.aliases.self c.add.new.self c.aliases.number c.aliases.last.labels c.in-Some.next c.aliases.invariant (omega arith)
    (subst (λ l. LeadsOn c.args.zone.now c.args.name.now.labels c.args.code c.aliases.number l c.aliases.self c.add.new.self c.in-Some.next) c.lead_of-lead.ensures.lead
    (some_holds (LeadsOn c.args.zone.now c.args.name.now.labels c.args.code c.aliases.number _ c.aliases.self c.add.new.self) c.in_ok-next.field-0 c.in-Some.next c.in-Some.is c.in_ok-next.ensures.some))

pub returns : goal.returns
returns c =
    cut c.args.zone.now c.args.code c.args.name.now.labels c.aliases.self c.end.new.self c.aliases.number c.aliases.last.labels c.aliases.invariant (omega arith) c.end.ensures

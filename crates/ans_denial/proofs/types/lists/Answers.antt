-- A type that is listed is found, and one that is passed is not it.
use Rattle.std.proofs.Common.{List, sym, ap, ◌∙◌}
use Rattle.dns_names_wire.specs.Words.{RecordType, type_code}
use Rattle.ans_answer.proofs.Asked.{other_code, same_code}
use Rattle.ans_denial.specs.Nsecs.{lists}
use Rattle.ans_denial.specs.Seen.{codes}
use Rattle.ans_denial.proofs.Steps.{lists_here, lists_later, lists_none}
use Rattle.ans_denial.proofs.types.lists.Goals as goal

pub returns-then-code : goal.returns-then-code
returns-then-code c =
    sym (c.types.invariant
    ∙ (ap (λ (types : List RecordType). lists (codes types) c.args.code) c.in-Some.ensures.steps
    ∙ lists_here c.in-Some.listed c.next.new.self c.args.code
    (same_code (type_code c.in-Some.listed) c.args.code (sym c.code.ensures ∙ c.if-code.true))))

pub types-preserved : goal.types-preserved
types-preserved c =
    c.types.invariant
    ∙ (ap (λ (types : List RecordType). lists (codes types) c.args.code) c.in-Some.ensures.steps
    ∙ lists_later c.in-Some.listed c.next.new.self c.args.code
    (other_code (type_code c.in-Some.listed) c.args.code (λ same. c.if-code.false (c.code.ensures ∙ same))))

pub returns : goal.returns
returns c =
    sym (c.types.invariant
    ∙ (ap (λ (types : List RecordType). lists (codes types) c.args.code) c.in_default.ensures.steps.0 ∙ lists_none c.args.code))

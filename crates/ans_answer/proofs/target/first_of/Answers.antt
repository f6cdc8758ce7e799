use Rattle.std.proofs.Common.{sym, ◌∙◌, arith}
use Rattle.ans_store.proofs.Search.{none_more}
use Rattle.ans_answer.specs.Answers.{records_of_type}
use Rattle.ans_answer.specs.Outcomes.{is_wanted}
use Rattle.ans_answer.proofs.First.{first_found, none_found}
use Rattle.ans_answer.proofs.target.first_of.Goals as goal

pub returns-then-is_wanted : goal.returns-then-is_wanted
unfolding records_of_type
returns-then-is_wanted c =
    sym (first_found (is_wanted c.args.code) c.args.zone.now.records c.args.node.start c.args.node.end c.requires.within c.records.number c.get-record.result
    (omega arith) (omega arith) c.get-record.ensures (sym c.is_wanted.ensures ∙ c.if-is_wanted.true) (λ j d from below. c.records.invariant j d from below))

pub records-preserved : goal.records-preserved
records-preserved c =
    none_more (is_wanted c.args.code) c.args.zone.now.records c.args.node.start c.records.number c.get-record.result (omega arith) c.get-record.ensures
    (sym c.is_wanted.ensures ∙ c.if-is_wanted.false) c.records.invariant

pub returns : goal.returns
unfolding records_of_type
returns c =
    sym (none_found (is_wanted c.args.code) c.args.zone.now.records c.args.node.start c.args.node.end c.requires.within
    (λ j d from below. c.records.invariant j d from (omega arith)))

use Rattle.std.proofs.Common.{◌∙◌, ◌++◌, ◌∷◌, [], ap, refl, sym}
use Rattle.dns_names_wire.specs.Words.{NameValue}
use Rattle.ans_answer.specs.Answers.{is_met}
use Rattle.ans_answer.specs.Seen.{names_of}
use Rattle.ans_answer.specs.Targets.{To}
use Rattle.ans_answer.proofs.Steps.{met_ends}
use Rattle.ans_answer.proofs.answer.Answer.visit.Goals as goal

pub returns-then-met-clause-none : goal.returns-then-met-clause-none
returns-then-met-clause-none c =
    met_ends c.args.asked.now.labels c.args.self.now (record c.args.self.now { names = c.push.new.self }) c.end.new.self c.args.name c.in_ok-push.ensures.items refl
    c.requires.none.0 c.requires.none.1 c.end.ensures (sym c.has_met-met.ensures ∙ c.if-met.true)

pub returns-clause-some : goal.returns-clause-some
returns-clause-some c = record {
  names = c.in_ok-push.ensures.items ∙ ap (λ (n : NameValue). c.args.self.now.names.items ++ n ∷ []) (sym c.copied-next.ensures);
  same = refl;
  data_none = c.requires.none.0;
  authority = c.requires.none.1;
  leads = ap (λ (n : NameValue). To n.labels) (sym c.copied-next.ensures);
  not_met = ap (λ (n : NameValue). is_met (names_of c.args.asked.now.labels c.args.self.now) n.labels) c.copied-next.ensures ∙ (sym c.has_met-met.ensures ∙ c.if-met.false);
}

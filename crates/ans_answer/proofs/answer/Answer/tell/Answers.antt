use Rattle.std.proofs.Common.{sym, ◌∙◌}
use Rattle.ans_answer.proofs.Steps.{data_ends}
use Rattle.ans_answer.proofs.answer.Answer.tell.Goals as goal

pub returns-in-Records : goal.returns-in-Records
returns-in-Records c asked =
    data_ends c.args.zone.now asked c.args.code c.args.number c.args.node _ c.args.self.now c.end.new.self c.requires.upto.authority (sym c.kind_of.ensures ∙ c.in-Records.is)
    c.end.ensures

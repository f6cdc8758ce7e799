use Rattle.std.proofs.Common.{◌∙◌}
use Rattle.ans_answer.proofs.Asked.{asked_all, asked_by_type, other_code, same_code}
use Rattle.ans_answer.proofs.kind.is_answered.Goals as goal

pub returns-then-code-eq-ANY : goal.returns-then-code-eq-ANY
returns-then-code-eq-ANY c = asked_all c.args.code c.args.zone.now.records c.args.node.start c.args.node.end c.requires.within (same_code c.args.code 255 c.if-code-eq-ANY.true)

pub returns : goal.returns
returns c = c.have_type.ensures ∙ asked_by_type c.args.code _ (other_code c.args.code 255 c.if-code-eq-ANY.false)

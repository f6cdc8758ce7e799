use Rattle.std.proofs.Common.{◌∙◌, ap}
use Rattle.dns_names_wire.specs.Words.{NameValue}
use Rattle.ans_answer.proofs.Down.{beside_is, ok_same}
use Rattle.ans_denial.proofs.Steps.{wild_beside}
use Rattle.ans_denial.proofs.nsec.wildcard_beside.Goals as goal

pub returns : goal.returns
returns c =
    ap (λ (n : NameValue). n.labels) (ok_same _ _ _ c.unwrap.ensures c.into_wildcard.ensures)
    ∙ (beside_is c.last_labels.result c.args.name.now.labels c.args.count c.requires.some c.requires.within c.last_labels.ensures
    ∙ wild_beside c.args.name.now.labels c.args.count c.requires.some c.requires.within)

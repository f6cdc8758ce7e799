-- What a name itself says.
use Rattle.std.proofs.Common.{sym, ◌∙◌}
use Rattle.ans_answer.proofs.Down.{itself_missing, itself_sent, itself_there}
use Rattle.ans_answer.proofs.outcome.itself.Goals as goal

pub returns-then-is_sent-clause-outcome : goal.returns-then-is_sent-clause-outcome
returns-then-is_sent-clause-outcome c =
    itself_sent c.args.zone.now c.args.name.now.labels c.args.code _ (sym c.is_sent.ensures ∙ c.if-is_sent.true) c.node-node.ensures.owned

pub returns-then-node-clause-outcome : goal.returns-then-node-clause-outcome
returns-then-node-clause-outcome c =
    itself_there c.args.zone.now c.args.name.now.labels c.args.code _ (sym c.is_sent.ensures ∙ c.if-is_sent.false) (sym c.node-node.ensures.known ∙ c.if-node.true)
    c.node-node.ensures.owned

pub wildcard_beside-wild-requires : goal.wildcard_beside-wild-requires
wildcard_beside-wild-requires c =
    record {
      some = c.requires.below (sym c.node-node.ensures.known ∙ c.if-node.false);
      within = c.requires.within;
    }

pub returns-clause-outcome : goal.returns-clause-outcome
returns-clause-outcome c =
    c.by_wildcard.ensures.outcome
    ∙ itself_missing c.args.zone.now c.args.name.now.labels c.wildcard_beside-wild.result.labels c.args.code c.args.count c.requires (sym c.is_sent.ensures ∙ c.if-is_sent.false)
    (sym c.node-node.ensures.known ∙ c.if-node.false) c.wildcard_beside-wild.ensures

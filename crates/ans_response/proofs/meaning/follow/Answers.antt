-- What a message means by one name of the aliases, it means by the next.
use Rattle.std.proofs.Common.{◌≡◌, ap, ◌∙◌, arith}
use Rattle.ans_response.specs.Meanings.{heard_of, meant_by}
use Rattle.ans_response.proofs.Chains.{meant_later, meant_never, meant_now}
use Rattle.ans_response.proofs.meaning.follow.Goals as goal

pub returns-in-Means : goal.returns-in-Means
returns-in-Means c target are =
    meant_now c.args.asked.now (heard_of target c.args.asked.now c.args.message.now) c.aliases.name.labels c.aliases.left _ c.aliases-test.true (c.in-Means.ensures target are)
    ∙ c.aliases.invariant target are

pub aliases-preserved : goal.aliases-preserved
aliases-preserved c target are =
    meant_later c.args.asked.now (heard_of target c.args.asked.now c.args.message.now) c.aliases.name.labels c.aliases.left c.in-On.next.labels c.aliases-test.true
    (c.in-On.ensures target are)
    ∙ c.aliases.invariant target are

pub returns : goal.returns
returns c target are =
    let heard = heard_of target c.args.asked.now c.args.message.now in
    let none : 0 ≡ c.aliases.left = omega arith in
    meant_never c.args.asked.now heard c.aliases.name.labels
    ∙ (ap (λ n. meant_by n c.args.asked.now heard c.aliases.name.labels) none ∙ c.aliases.invariant target are)

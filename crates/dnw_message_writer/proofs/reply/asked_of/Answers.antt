use Rattle.std.proofs.Common.{inr, sym, ◌∙◌, subst}
use Rattle.dnw_message_writer.specs.Replies.{IsOnlyQuery}
use Rattle.dnw_message_writer.proofs.Replying.{only_one}
use Rattle.dnw_message_writer.proofs.reply.asked_of.Goals as goal

pub returns : goal.returns
returns c =
    let (k, at, few) = c.in-Ok.ensures.ok in
    let only = only_one c.queries-queries.result c.next-first.result c.next-first.new.self c.next.new.self c.next.result c.next-first.ensures.steps
    c.next.ensures.steps (sym c.is_some.ensures ∙ c.if-is_some.false) in
    inr (c.in-Ok.message, k, at, inr (subst (λ q. IsOnlyQuery q c.next-first.result) c.queries-queries.ensures only, c.asked_by_edns-asked.ensures))

use Rattle.std.proofs.Common.{◌∙◌, ◌++◌, ℕ, List, ap, subst}
use Rattle.ans_reply.specs.Lists.{reply_items}
use Rattle.ans_reply.specs.Replies.{reply_to_question}
use Rattle.ans_reply.specs.Requests.{IsReplyAs}
use Rattle.ans_reply.specs.declared.reply.ReplyItems.{ReplyItems}
use Rattle.ans_reply.proofs.reply.items_of.Goals as goal

pub returns : goal.returns
returns c =
    let q = c.args.query in
    let zone = c.args.zone.now in
    let it : ReplyItems = record { items = c.append_reply.new.items; code = c.in_ok-said.said.code; is_authoritative = c.in_ok-said.said.is_authoritative } in
    subst (λ (g : ℕ). IsReplyAs c.args.asked q (reply_to_question zone g q) it) c.general_code-general.ensures
    (record {
      items = c.in_ok-said.ensures.items
          ∙ ap (λ (xs : List ℕ). xs ++ reply_items c.args.asked q (reply_to_question zone c.general_code-general.result q)) c.new-items.ensures.items;
      code = c.in_ok-said.ensures.code;
      authoritative = c.in_ok-said.ensures.authoritative;
    })

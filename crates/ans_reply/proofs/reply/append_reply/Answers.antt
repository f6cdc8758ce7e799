use Rattle.std.proofs.Common.{◌∙◌, ◌++◌, ℕ, List, ap}
use Rattle.ans_reply.specs.Lists.{item_of_question, opt_item, sections_items}
use Rattle.ans_reply.specs.Replies.{reply_to_question}
use Rattle.ans_reply.proofs.Octets.{ends_joined}
use Rattle.ans_reply.proofs.reply.append_reply.Goals as goal

pub returns : goal.returns
returns c =
    let reply = reply_to_question c.args.zone.now c.args.general c.args.query in
    record {
      items = c.in_ok-append_opt.ensures
          ∙ (ap (λ (xs : List ℕ). xs ++ opt_item c.args.asked) c.in_ok-said.ensures.items
          ∙ ends_joined c.args.items.now.items (item_of_question c.args.query) (sections_items reply) (opt_item c.args.asked));
      code = c.in_ok-said.ensures.code;
      authoritative = c.in_ok-said.ensures.authoritative;
    }

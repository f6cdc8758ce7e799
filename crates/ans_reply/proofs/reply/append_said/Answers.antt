use Rattle.std.proofs.Common.{◌∙◌, ◌++◌, ℕ, List, Option, Some, ap, subst, sym}
use Rattle.std.proofs.lemmas.List.{append-nil}
use Rattle.dns_names_wire.specs.Words.{QueryValue}
use Rattle.ans_reply.specs.Inside.Said.{AppendsReply}
use Rattle.ans_reply.specs.Lists.{item_of_question, sections_items}
use Rattle.ans_reply.specs.Replies.{ZoneReply, reply_to_question, zone_class}
use Rattle.ans_reply.specs.declared.reply.Said.{Said}
use Rattle.ans_reply.proofs.Octets.{two_joined}
use Rattle.ans_reply.proofs.Saying.{no_question}
use Rattle.ans_reply.proofs.reply.append_said.Goals as goal

pub returns-in_default : goal.returns-in_default
returns-in_default c =
    let zone = c.args.zone.now in
    let old = c.args.items.now.items in
    subst (λ (q : Option QueryValue). AppendsReply (item_of_question q ++ sections_items (reply_to_question zone c.args.general q)) (reply_to_question zone c.args.general q) old old c.bare.result)
    (sym c.in_default.is)
    (subst (λ (r : ZoneReply). AppendsReply (sections_items r) r old old c.bare.result) (sym (no_question zone c.args.general))
    (record {
      items = sym (append-nil old);
      code = ap (λ (s : Said). s.code) c.bare.ensures ∙ c.code_without_question.ensures (zone_class zone.records);
      authoritative = ap (λ (s : Said). s.is_authoritative) c.bare.ensures;
    }))

pub returns : goal.returns
returns c =
    let zone = c.args.zone.now in
    let old = c.args.items.now.items in
    let reply = reply_to_question zone c.args.general (Some c.in-Some.query) in
    subst (λ (q : Option QueryValue). AppendsReply (item_of_question q ++ sections_items (reply_to_question zone c.args.general q)) (reply_to_question zone c.args.general q) old c.append_answer.new.items.items c.in_ok-said.said)
    (sym c.in-Some.is)
    (record {
      items = c.in_ok-said.ensures.items
          ∙ (ap (λ (xs : List ℕ). xs ++ sections_items reply) c.in_ok-append_question.ensures ∙ two_joined old (item_of_question (Some c.in-Some.query)) (sections_items reply));
      code = c.in_ok-said.ensures.code;
      authoritative = c.in_ok-said.ensures.authoritative;
    })

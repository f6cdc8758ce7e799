use Rattle.std.proofs.Common.{◌≡◌, ◌∙◌, ℕ, Some, ap, refl, rules, subst, sym}
use Rattle.std.proofs.lemmas.List.{append-nil}
use Rattle.dns_names_wire.specs.Words.{type_code}
use Rattle.ans_answer.specs.Answers.{answer}
use Rattle.ans_answer.specs.Seen.{answer_seen}
use Rattle.ans_reply.specs.Inside.Said.{AppendsReply}
use Rattle.ans_reply.specs.Lists.{sections_items}
use Rattle.ans_reply.specs.Replies.{ZoneReply, bare, reply_after, reply_by, reply_to_question}
use Rattle.ans_reply.specs.declared.reply.Said.{Said}
use Rattle.ans_reply.proofs.Saying.{not_asked, replied}
use Rattle.ans_reply.proofs.reply.append_answer.Goals as goal

pub returns-then-early-ne0 : goal.returns-then-early-ne0
returns-then-early-ne0 c =
    let zone = c.args.zone.now in
    let early = c.early_code-early.result in
    let is : reply_to_question zone c.args.general (Some c.args.query.now) ≡ bare early =
    ap (λ (e : ℕ). reply_after zone e (Some c.args.query.now)) (sym c.early_code-early.ensures) ∙ not_asked zone early (Some c.args.query.now) c.if-early-ne0.true in
    subst (λ (r : ZoneReply). AppendsReply (sections_items r) r c.args.items.now.items c.args.items.now.items c.bare.result) (sym is)
    (record {
      items = sym (append-nil c.args.items.now.items);
      code = ap (λ (s : Said). s.code) c.bare.ensures;
      authoritative = ap (λ (s : Said). s.is_authoritative) c.bare.ensures;
    })

pub returns : goal.returns
returns c =
    let zone = c.args.zone.now in
    let q = c.args.query.now in
    let name : c.unwrap-name.result.labels ≡ q.name = search rules in
    let code : c.code-code.result ≡ type_code q.query_type = search rules in
    let asked : reply_to_question zone c.args.general (Some q) ≡ reply_by zone (type_code q.query_type) (answer zone q.name (type_code q.query_type)) =
    ap (λ (e : ℕ). reply_after zone e (Some q)) (sym c.early_code-early.ensures ∙ c.if-early-ne0.false) in
    let is = replied zone q.name c.unwrap-name.result.labels (type_code q.query_type) c.code-code.result (answer_seen zone.records c.unwrap-name.result.labels c.in_ok-answer.answer)
    c.in_ok-answer.ensures name code in
    let said : Said = record { code = c.rcode_number.result; is_authoritative = c.in_ok-answer.answer.is_authoritative } in
    subst (λ (r : ZoneReply). AppendsReply (sections_items r) r c.args.items.now.items c.append_sections.new.items.items said) (is ∙ sym asked)
    (record { items = c.in_ok-append_sections.ensures; code = c.rcode_number.ensures; authoritative = refl })

use Rattle.std.proofs.Common.{◌≡◌, ◌∙◌, ◌++◌, ℕ, List, ap}
use Rattle.ans_answer.specs.Seen.{answer_seen}
use Rattle.ans_reply.specs.Lists.{section_items}
use Rattle.ans_reply.specs.Replies.{reply_by}
use Rattle.ans_reply.specs.Sections.{ReplyRecord}
use Rattle.ans_reply.proofs.Octets.{three_joined}
use Rattle.ans_reply.proofs.reply.append_sections.Goals as goal

more : (section : ℕ) (old new : List ℕ) (slice records wanted : List ReplyRecord) → new ≡ old ++ section_items section slice → slice ≡ records → records ≡ wanted
    → new ≡ old ++ section_items section wanted
more section old new slice records wanted is is_slice is_records = is ∙ ap (λ (xs : List ReplyRecord). old ++ section_items section xs) (is_slice ∙ is_records)

pub returns : goal.returns
returns c =
    let old = c.args.items.now.items in
    let r = reply_by c.args.zone.now c.args.code (answer_seen c.args.zone.now.records c.args.asked.now.labels c.args.answer.now) in
    let first = more 1 old c.append_section.new.list.items c.as_slice.result.now c.in_ok-answers.answers.items r.answers c.in_ok-append_section.ensures c.as_slice.ensures.value c.in_ok-answers.ensures in
    let second = more 2 c.append_section.new.list.items c.append_section-2.new.list.items c.as_slice-2.result.now c.in_ok-authorities.authorities.items r.authorities
    c.in_ok-append_section-2.ensures c.as_slice-2.ensures.value c.in_ok-authorities.ensures in
    let third = more 3 c.append_section-2.new.list.items c.append_section-3.new.list.items c.as_slice-3.result.now c.in_ok-additionals.additionals.items r.additionals
    c.in_ok-append_section-3.ensures c.as_slice-3.ensures.value c.in_ok-additionals.ensures in
    third
    ∙ (ap (λ (xs : List ℕ). xs ++ section_items 3 r.additionals) (second ∙ ap (λ (xs : List ℕ). xs ++ section_items 2 r.authorities) first)
    ∙ three_joined old (section_items 1 r.answers) (section_items 2 r.authorities) (section_items 3 r.additionals))

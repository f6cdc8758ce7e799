use Rattle.std.proofs.Common.{◌∙◌, [], List, ap, sym}
use Rattle.std.specs.List.{flat_map}
use Rattle.dns_names_wire.specs.Words.{NameValue, any_code}
use Rattle.ans_answer.proofs.Asked.{other_code, same_code}
use Rattle.ans_answer.specs.Seen.{all_labels, answer_seen, names_of}
use Rattle.ans_reply.specs.Sections.{ReplyRecord, address_parts, each_once, part_records}
use Rattle.ans_reply.proofs.Servers.{all_named, helped, not_helped}
use Rattle.ans_reply.proofs.helping.additionals_of.Goals as goal

pub returns-then-code-eq-ANY : goal.returns-then-code-eq-ANY
returns-then-code-eq-ANY c =
    c.new-records.ensures.items
    ∙ sym (not_helped c.args.zone.now c.args.code (answer_seen c.args.zone.now.records c.args.asked.now.labels c.args.answer.now) (same_code c.args.code any_code c.if-code-eq-ANY.true))

pub returns : goal.returns
returns c =
    let zone = c.args.zone.now in
    let names = names_of c.args.asked.now.labels c.args.answer.now in
    let referral = c.is_referral-is_referral.result in
    let sent = λ (ns : List NameValue). flat_map part_records (flat_map (address_parts zone referral) (all_labels ns)) in
    c.in_ok-add_all_addresses.ensures
    ∙ (ap (λ (xs : List ReplyRecord). each_once xs (sent c.as_slice.result.now)) c.new-records.ensures.items
    ∙ (ap (λ (ns : List NameValue). each_once [] (sent ns)) c.as_slice.ensures.value
    ∙ helped zone c.args.code (answer_seen zone.records c.args.asked.now.labels c.args.answer.now) referral (all_labels c.in_ok-servers.servers.items)
    (other_code c.args.code any_code c.if-code-eq-ANY.false) (c.is_referral-is_referral.ensures zone.records names)
    (c.in_ok-servers.ensures ∙ all_named zone.records names c.args.answer.now.aliases.items c.args.answer.now.data c.args.answer.now.authority)))

use Rattle.std.proofs.Common.{◌∷◌, ◌∙◌, Option, ap, refl, sym}
use Rattle.std.specs.List.{flat_map}
use Rattle.std.specs.Option.{option_to_list}
use Rattle.ans_answer.specs.Seen.{all_labels, parts_seen}
use Rattle.ans_answer.specs.declared.answer.Part.{Part}
use Rattle.ans_reply.specs.Sections.{each_once, part_records}
use Rattle.ans_reply.proofs.Once.{one_part}
use Rattle.ans_reply.proofs.section.add_some.Goals as goal

pub returns-in_default : goal.returns-in_default
unfolding each_once
returns-in_default c = rw c.in_default.is refl

pub returns : goal.returns
returns c =
    let zs = c.args.zone.now.records in
    let names = c.args.asked.now.labels ∷ all_labels c.args.names.now in
    c.in_ok-add_part.ensures
    ∙ (one_part zs names c.args.records.now.items c.in-Some.part
    ∙ ap (λ (o : Option Part). each_once c.args.records.now.items (flat_map part_records (parts_seen zs names (option_to_list o)))) (sym c.in-Some.is))

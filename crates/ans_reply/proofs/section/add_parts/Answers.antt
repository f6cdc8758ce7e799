use Rattle.std.proofs.Common.{◌∷◌, ◌∙◌, sym, arith}
use Rattle.std.proofs.lemmas.List.{drop_all, get_or_default}
use Rattle.ans_answer.specs.Seen.{all_labels}
use Rattle.ans_reply.proofs.Once.{no_parts, parts_step}
use Rattle.ans_reply.proofs.section.add_parts.Goals as goal

pub parts-preserved : goal.parts-preserved
parts-preserved c =
    parts_step c.args.zone.now.records (c.args.asked.now.labels ∷ all_labels c.args.names.now) c.parts.records.items c.add_part.new.records.items c.args.parts.now c.parts.part-index
    _ c.parts-test.true (get_or_default _ _ _ _ c.parts-test.true) c.in_ok-add_part.ensures
    ∙ c.parts.invariant

pub returns : goal.returns
returns c =
    sym (no_parts c.args.zone.now.records (c.args.asked.now.labels ∷ all_labels c.args.names.now) c.parts.records.items c.args.parts.now c.parts.part-index
    (drop_all c.parts.part-index c.args.parts.now (omega (arith, c.parts-test.false))))
    ∙ c.parts.invariant

use Rattle.std.proofs.Common.{◌∙◌, List, map, ap, sym, arith, min}
use Rattle.dns_names_wire.specs.Words.{RecordValue}
use Rattle.ans_answer.specs.Answers.{records_of_type}
use Rattle.ans_reply.specs.Inside.Roles.{sent}
use Rattle.ans_reply.specs.Sections.{each_once}
use Rattle.ans_reply.proofs.Once.{set_end, set_step}
use Rattle.ans_reply.proofs.Ranges.{range_clipped}
use Rattle.ans_reply.proofs.section.add_set.Goals as goal

pub records-preserved : goal.records-preserved
records-preserved c =
    set_step c.records.records.items c.add_wanted.new.records.items c.args.zone.now.records c.args.role.now c.args.code c.records.number c.min-end.result c.get.result
    (omega arith) (omega (arith, c.min-end.ensures)) c.get.ensures c.in_ok-add_wanted.ensures
    ∙ c.records.invariant

pub returns : goal.returns
returns c =
    let zs = c.args.zone.now.records in
    sym (set_end c.records.records.items zs c.args.role.now c.args.code c.records.number c.min-end.result (omega arith))
    ∙ (c.records.invariant
    ∙ ap (λ (rs : List RecordValue). each_once c.args.records.now.items (map (sent c.args.role.now) (records_of_type c.args.code rs)))
    (range_clipped zs c.args.node.start c.args.node.end c.min-end.result (c.min-end.ensures ∙ ap (min c.args.node.end) c.len.ensures)))

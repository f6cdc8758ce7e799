use Rattle.std.proofs.Common.{◌∙◌, List, slice_get, ap, sym, arith, min}
use Rattle.dns_names_wire.specs.Words.{RecordValue}
use Rattle.ans_answer.specs.Answers.{records_of_type}
use Rattle.ans_reply.proofs.Once.{first_is, first_later, first_none}
use Rattle.ans_reply.proofs.Ranges.{range_clipped}
use Rattle.ans_reply.proofs.section.first_of.Goals as goal

pub returns-then-is_wanted : goal.returns-then-is_wanted
returns-then-is_wanted c =
    let zs = c.args.zone.now.records in
    sym (first_is zs c.args.code c.records.number c.min-end.result c.get-record.result (omega arith) (omega (arith, c.min-end.ensures)) c.get-record.ensures
    (sym c.is_wanted.ensures ∙ c.if-is_wanted.true))
    ∙ (c.records.invariant
    ∙ ap (λ (rs : List RecordValue). slice_get (records_of_type c.args.code rs) 0) (range_clipped zs c.args.node.start c.args.node.end c.min-end.result (c.min-end.ensures ∙ ap (min c.args.node.end) c.len.ensures)))

pub records-preserved : goal.records-preserved
records-preserved c =
    first_later c.args.zone.now.records c.args.code c.records.number c.min-end.result c.get-record.result (omega arith) (omega (arith, c.min-end.ensures)) c.get-record.ensures
    (sym c.is_wanted.ensures ∙ c.if-is_wanted.false)
    ∙ c.records.invariant

pub returns : goal.returns
returns c =
    let zs = c.args.zone.now.records in
    sym (first_none zs c.args.code c.records.number c.min-end.result (omega arith))
    ∙ (c.records.invariant
    ∙ ap (λ (rs : List RecordValue). slice_get (records_of_type c.args.code rs) 0) (range_clipped zs c.args.node.start c.args.node.end c.min-end.result (c.min-end.ensures ∙ ap (min c.args.node.end) c.len.ensures)))

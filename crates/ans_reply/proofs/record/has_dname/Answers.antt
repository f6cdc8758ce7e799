use Rattle.std.proofs.Common.{◌≡◌, length, take, sym, ap, ◌∙◌, arith}
use Rattle.std.proofs.Math.Seq.{take-length}
use Rattle.std.proofs.lemmas.List.Folds.{list_any_at, list_any_more}
use Rattle.std.specs.List.{list_any}
use Rattle.ans_reply.specs.Sections.{is_dname_at}
use Rattle.ans_reply.proofs.record.has_dname.Goals as goal

pub returns-then-is_dname_at : goal.returns-then-is_dname_at
returns-then-is_dname_at c =
    let is = is_dname_at c.args.name.now.labels in
    sym (list_any_at is c.args.records.now c.records.record-index c.record-item.result c.records-test.true
    (ap is (sym c.record-item.is) ∙ (sym c.is_dname_at.ensures ∙ c.if-is_dname_at.true)))

pub records-preserved : goal.records-preserved
records-preserved c =
    let is = is_dname_at c.args.name.now.labels in
    list_any_more is c.args.records.now c.records.record-index c.record-item.result c.records-test.true
    ∙ rw (c.records.invariant) (ap is (sym c.record-item.is) ∙ (sym c.is_dname_at.ensures ∙ c.if-is_dname_at.false))

pub returns : goal.returns
returns c =
    let is = is_dname_at c.args.name.now.labels in
    let all : c.records.record-index ≡ length c.args.records.now = omega arith in
    sym (ap (list_any is) (sym (ap (λ n. take n c.args.records.now) all ∙ take-length c.args.records.now)) ∙ c.records.invariant)

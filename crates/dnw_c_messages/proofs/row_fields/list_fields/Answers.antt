use Rattle.std.proofs.Common.{[], sym, ◌∙◌}
use Rattle.std.proofs.lemmas.Bool.{false≢true}
use Rattle.std.proofs.lemmas.List.{nil_from_length}
use Rattle.std.proofs.lemmas.Result.{IfErr-weaker, on_ok_weaker}
use Rattle.dnw_c_base.proofs.Exits.{exits}
use Rattle.dnw_c_messages.specs.Inside.Sheets.{sheet}
use Rattle.dnw_c_messages.proofs.FieldSteps.{ended, fields_on, fields_over, left_goes, left_halts}
use Rattle.dnw_c_messages.proofs.Steps.{goes_both, goes_halts, goes_none}
use Rattle.dnw_c_messages.proofs.row_fields.list_fields.Goals as goal

pub fields-init : goal.fields-init
fields-init c = record {
  fits = c.requires;
  goes = λ b p. goes_none b _ p (sheet c.args.rows.now c.args.names.now c.args.at.now) c.requires;
}

pub returns-in_err-list_field-clause-err : goal.returns-in_err-list_field-clause-err
returns-in_err-list_field-clause-err c =
    let first = c.in-Some.ensures.cases.0 in
    exits _ c.from_residual.result _ c.from_residual.ensures.1
    (λ b p. goes_halts (rw first at (c.fields.invariant.goes b p)) (c.in_err-list_field.ensures.err c.in-Some.others.now b p))

pub returns-then-not-branch-clause-ok : goal.returns-then-not-branch-clause-ok
returns-then-not-branch-clause-ok c =
    let first = c.in-Some.ensures.cases.0 in
    λ b p. goes_both (rw first at (c.fields.invariant.goes b p))
    (fields_over c.in_ok-list_field.field-0 c.in-Some.others.now c.list_field.new.reader c.if-not-branch.true
    (c.in_ok-list_field.ensures.ok c.in-Some.others.now b p))

pub fields-preserved : goal.fields-preserved
fields-preserved c =
    let first = c.in-Some.ensures.cases.0 in
    record {
      fits = (c.in_ok-list_field.ensures.ok [] [] 0).onward.fits;
      goes = λ b p. goes_both (rw first at (c.fields.invariant.goes b p))
          (fields_on c.in_ok-list_field.field-0 c.in-Some.others.now c.list_field.new.reader c.if-not-branch.false
          (c.in_ok-list_field.ensures.ok c.in-Some.others.now b p));
    }

pub returns-then-is_empty-clause-ok : goal.returns-then-is_empty-clause-ok
returns-then-is_empty-clause-ok c =
    λ b p. goes_both (c.fields.invariant.goes b p)
    (ended c.fields.reader (sheet c.fields.rows c.fields.names c.fields.at) c.fields.left.now (nil_from_length c.fields.left.now c.in_default.ensures.cases) (c.is_empty.ensures.0 c.if-is_empty.true)
    c.fields.invariant.fits b p)

pub returns-clause-ok : goal.returns-clause-ok
returns-clause-ok c =
    on_ok_weaker c.list_fault.result
    (λ puts b p. goes_both (c.fields.invariant.goes b p)
    (left_goes c.fields.reader c.fields.rows c.list_fault.new.rows c.fields.names c.fields.at c.list_fault.new.at c.fields.left.now (nil_from_length c.fields.left.now c.in_default.ensures.cases)
    (λ end. false≢true (sym c.if-is_empty.false ∙ c.is_empty.ensures.1 end)) c.fields.invariant.fits puts b p)) c.list_fault.ensures.ok

pub returns-clause-err : goal.returns-clause-err
returns-clause-err c =
    IfErr-weaker c.list_fault.result _ _
    (λ failure none b p. goes_halts (c.fields.invariant.goes b p)
    (left_halts c.fields.reader c.fields.rows c.fields.names c.fields.at failure c.fields.left.now (nil_from_length c.fields.left.now c.in_default.ensures.cases)
    (λ end. false≢true (sym c.if-is_empty.false ∙ c.is_empty.ensures.1 end)) none b p)) c.list_fault.ensures.err

-- One field after another is put, up to the first that is none, or to the end.
use Rattle.std.proofs.Common.{refl}
use Rattle.std.proofs.lemmas.Result.{err_from_is_err_and}
use Rattle.dnw_record.proofs.Copying.{left-over, stops}
use Rattle.dnw_signed.proofs.Putting.{all_put, begins_putting, puts_on}
use Rattle.dnw_signed.proofs.fields.put_fields.Goals as goal

pub fields-init : goal.fields-init
fields-init c = begins_putting

pub returns-in_err-put_field-clause-err : goal.returns-in_err-put_field-clause-err
returns-in_err-put_field-clause-err c =
    let (error, is, cause) = err_from_is_err_and c.from_residual.result c.from_residual.ensures.1 in
    let first = c.in-Some.ensures.cases.0 in
    let d = rw first at c.fields.invariant in
    rw (is, cause) (stops d.copying c.in_err-put_field.field-0.0 (rw first refl) c.in_err-put_field.ensures.err)

pub fields-preserved : goal.fields-preserved
fields-preserved c =
    let (piece, takes, longer) = c.in_ok-put_field.ensures.ok in
    puts_on (rw c.in-Some.ensures.cases.0 at c.fields.invariant) piece takes longer

pub returns-clause-ok : goal.returns-clause-ok
returns-clause-ok c = all_put c.fields.left.now c.in_default.ensures.cases c.fields.invariant c.in_ok-check_end.ensures.ok

pub returns-in_err-check_end-clause-err : goal.returns-in_err-check_end-clause-err
returns-in_err-check_end-clause-err c =
    let exit = c.from_residual-in_err-check_end in
    let (error, is, cause) = err_from_is_err_and exit.result exit.ensures.1 in
    let (more, field, why) = c.in_err-check_end.ensures.err in
    rw (is, cause)
    (left-over c.fields.left.now c.in_default.ensures.cases c.fields.invariant.copying more c.in_err-check_end.field-0.0 field (rw c.index-first.ensures.index at why))

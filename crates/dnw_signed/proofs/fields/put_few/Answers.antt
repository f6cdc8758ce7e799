-- One field after another is put, up to the first that is none, or follows too many pointers, or to the end.
use Rattle.std.proofs.Common.{refl}
use Rattle.std.proofs.lemmas.Result.{err_from_is_err_and}
use Rattle.dnw_signed.proofs.Putting.{begins_few, few_left, few_on, few_put, few_stop, too_many}
use Rattle.dnw_signed.proofs.fields.put_few.Goals as goal

pub fields-init : goal.fields-init
fields-init c = begins_few

pub returns-in-Err-clause-err : goal.returns-in-Err-clause-err
returns-in-Err-clause-err c =
    let first = c.in-Some.ensures.cases.0 in
    let d = rw first at c.fields.invariant in
    rw c.of_data.ensures (few_stop d c.args.record c.in-Err.error (rw first refl) c.in-Err.ensures.err)

pub returns-in_err-take_pointers-clause-err : goal.returns-in_err-take_pointers-clause-err
returns-in_err-take_pointers-clause-err c =
    let (error, is, cause) = err_from_is_err_and c.from_residual.result c.from_residual.ensures.1 in
    let d = rw c.in-Some.ensures.cases.0 at c.fields.invariant in
    let (less, why) = c.in_err-take_pointers.ensures.err in
    rw (is, cause, why) (refl, too_many d _ c.in-Ok.followed c.in-Ok.ensures.follows less)

pub fields-preserved : goal.fields-preserved
fields-preserved c =
    let (piece, takes, longer) = c.in-Ok.ensures.ok in
    few_on (rw c.in-Some.ensures.cases.0 at c.fields.invariant) c.in-Ok.followed piece takes c.in-Ok.ensures.follows c.in_ok-take_pointers.ensures.ok longer

pub returns-in-Ok-check_end-clause-ok : goal.returns-in-Ok-check_end-clause-ok
returns-in-Ok-check_end-clause-ok c = few_put c.fields.later.now c.in_default.ensures.cases c.fields.invariant c.in-Ok-check_end.ensures.ok

pub returns-in-Err-check_end-clause-err : goal.returns-in-Err-check_end-clause-err
returns-in-Err-check_end-clause-err c =
    let (more, field, why) = c.in-Err-check_end.ensures.err in
    few_left c.fields.later.now c.in_default.ensures.cases c.fields.invariant more c.args.record c.in-Err-check_end.error field
    (rw c.index-first.ensures.index at why)

use Rattle.std.proofs.Common.{◌<◌, ◌≤◌, length, refl, ap, ◌+◌, arith}
use Rattle.std.proofs.lemmas.Result.{err_from_is_err_and}
use Rattle.dnw_signed.proofs.Selecting.{all_done, next_fails, selects_next, starts_selecting}
use Rattle.dnw_signed.proofs.covering.covered.Goals as goal

pub records-init : goal.records-init
records-init c = (starts_selecting _ _ c.new-list.result c.new-list.ensures.0 c.new-list.ensures.1, refl)

pub records-preserved : goal.records-preserved
records-preserved c =
    let (one, selects, listed, grown) = c.in_ok-select.ensures.ok in
    let less : c.records.item-index < length c.args.records.now = omega (arith, c.records-test.true) in (
      selects_next c.args.records.now c.records.item-index c.item-item.result one c.records.invariant.0 c.item-item.is less selects listed grown,
      ap (λ n. n + 1) c.records.invariant.1,
    )

pub returns-in_err-select-clause-err : goal.returns-in_err-select-clause-err
returns-in_err-select-clause-err c =
    let (error, is, cause) = err_from_is_err_and c.from_residual.result c.from_residual.ensures.1 in
    let (covered, fails) = c.in_err-select.ensures.err in
    let less : c.records.item-index < length c.args.records.now = omega (arith, c.records-test.true) in
    rw (is, cause) (next_fails c.args.records.now c.records.item-index c.item-item.result c.in_err-select.field-0.0 c.records.invariant.0 c.item-item.is less c.records.invariant.1 covered fails)

pub returns-clause-ok : goal.returns-clause-ok
returns-clause-ok c =
    let all : length c.args.records.now ≤ c.records.item-index = omega (arith, c.records-test.false) in
    all_done c.records.item-index c.records.invariant.0 all

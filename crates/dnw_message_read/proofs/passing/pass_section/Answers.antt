use Rattle.std.proofs.Common.{refl, arith}
use Rattle.std.proofs.lemmas.Result.{err_from_is_err_and}
use Rattle.dnw_message_read.specs.Messages.{none}
use Rattle.dnw_message_read.proofs.InTurn.{fails_within, passes_more}
use Rattle.dnw_message_read.proofs.passing.pass_section.Goals as goal

pub loop-item-init : goal.loop-item-init
loop-item-init c = (record { items = _; pointers = 0; at = none; found_is = refl; counted = refl; taken = omega arith; same = refl }, c.requires)

pub returns-in_err-found-clause-err : goal.returns-in_err-found-clause-err
returns-in_err-found-clause-err c =
    let p = err_from_is_err_and c.from_residual.result c.from_residual.ensures.1 in
    rw (p.1, p.2) (fails_within _ _ _ _ _ _ _ _ _ c.loop-item-test.true c.loop-item.invariant.0 c.in_err-found.ensures.err)

pub loop-item-preserved : goal.loop-item-preserved
loop-item-preserved c = (passes_more _ _ _ _ _ _ _ _ _ _ c.loop-item.invariant.0 c.in_ok-found.ensures.ok, c.in_ok-found.ensures.known)

use Rattle.std.proofs.Common.{refl}
use Rattle.std.proofs.lemmas.Result.{err_from_is_err_and}
use Rattle.dnw_name_read.proofs.Takes.{TakesName_not_StopsAt, no_memory}
use Rattle.dnw_name.proofs.name.Name.read_counted.Goals as goal

pub returns-in_err-name-clause-accepts : goal.returns-in_err-name-clause-accepts
returns-in_err-name-clause-accepts c after ls k takes = absurd (TakesName_not_StopsAt takes c.in_err-name.ensures.err)

pub returns-in_err-name-clause-no_memory : goal.returns-in_err-name-clause-no_memory
returns-in_err-name-clause-no_memory c =
    let p = err_from_is_err_and c.from_residual.result c.from_residual.ensures.1 in
    no_memory c.from_residual.result c.args.decoder.now c.read_counted.new.steps.pointers c.read_counted.new.steps.labels
    (rw (p.1, p.2) c.in_err-name.ensures.err)

pub returns-clause-accepts : goal.returns-clause-accepts
returns-clause-accepts c after ls k takes =
    let (same, there) = c.in_ok-name.ensures.accepts after ls k takes in
    (rw (c.copied.ensures, same) refl, there)

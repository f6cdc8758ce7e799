use Rattle.std.proofs.lemmas.Result.{err_from_is_err_and}
use Rattle.dnw_c_base.proofs.Starts.{skipped_past}
use Rattle.dnw_c_base.proofs.names.name_ref_at.Goals as goal

pub returns-in_err-skip-clause-err : goal.returns-in_err-skip-clause-err
returns-in_err-skip-clause-err c =
    let (failure, is, cause) = err_from_is_err_and c.from_residual.result c.from_residual.ensures.1 in
    let error = c.in_err-skip.field-0.0 in
    let (k, j, fault) = skipped_past c.new-decoder.result c.skip.new.self c.args.message.now c.args.start error c.new-decoder.ensures c.in_err-skip.ensures.takes in
    rw is (error, k, j, fault, cause)

use Rattle.std.proofs.Common.{refl}
use Rattle.std.proofs.lemmas.Result.{err_from_is_err_and}
use Rattle.dnw_c_base.proofs.Starts.{skipped_past}
use Rattle.dnw_c_messages.proofs.RecordReads.{lacks_owner, lacks_rest, lacks_room, reads, skipped}
use Rattle.dnw_c_messages.proofs.records.read.Goals as goal

pub returns-in_err-skip : goal.returns-in_err-skip
returns-in_err-skip c =
    let (failure, is, cause) = err_from_is_err_and c.from_residual.result c.from_residual.ensures.1 in
    let error = c.in_err-skip.field-0.0 in
    let stops = skipped_past c.new-reader.result c.skip.new.self c.args.message.now c.args.start error c.new-reader.ensures c.in_err-skip.ensures.takes in
    rw (is, cause) (lacks_owner c.args.message.now c.args.start _ c.args.form.now error refl stops)

pub returns-in_err-found : goal.returns-in_err-found
returns-in_err-found c =
    let (failure, is, cause) = err_from_is_err_and c.from_residual-in_err-found.result c.from_residual-in_err-found.ensures.1 in
    let (k, takes) = c.in_ok-owner.ensures.ok in
    let at = skipped c.new-reader.result c.skip.new.self c.args.message.now c.args.start c.new-reader.ensures c.in_ok-skip.ensures.takes.2 in
    rw (is, cause) (lacks_rest c.args.message.now c.args.start k c.skip.new.self c.read.new.decoder c.in_ok-owner.owner at takes
    c.args.form.now c.in_err-found.field-0.0 c.in_err-found.ensures.err)

pub returns-in_err-found-2 : goal.returns-in_err-found-2
returns-in_err-found-2 c =
    let (failure, is, same) = err_from_is_err_and c.from_residual-in_err-found-2.result c.from_residual-in_err-found-2.ensures.1 in
    let (k, takes) = c.in_ok-owner.ensures.ok in
    let at = skipped c.new-reader.result c.skip.new.self c.args.message.now c.args.start c.new-reader.ensures c.in_ok-skip.ensures.takes.2 in
    rw (is, same) (lacks_room c.args.message.now c.args.start k c.skip.new.self c.read.new.decoder c.in_ok-owner.owner at takes
    c.args.form.now c.put_name.new.form c.in_err-found-2.field-0.0 c.in_ok-found.ensures.ok.0 c.in_err-found-2.ensures)

pub returns : goal.returns
returns c =
    let (k, takes) = c.in_ok-owner.ensures.ok in
    let at = skipped c.new-reader.result c.skip.new.self c.args.message.now c.args.start c.new-reader.ensures c.in_ok-skip.ensures.takes.2 in
    reads c.args.message.now c.args.start k c.skip.new.self c.read.new.decoder c.in_ok-owner.owner at takes
    c.in_ok-found.found c.args.form.now c.put_name.new.form c.in_ok-found-2.field-0 c.in_ok-found.ensures.ok c.in_ok-found-2.ensures

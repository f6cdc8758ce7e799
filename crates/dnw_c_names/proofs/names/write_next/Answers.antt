use Rattle.dnw_c_base.proofs.Exits.{exits}
use Rattle.dnw_write.specs.EncoderValue.{value}
use Rattle.dnw_c_names.specs.NameLists.{FailsToCopyName, unread, unwritten}
use Rattle.dnw_c_names.proofs.names.write_next.Goals as goal

pub returns-clause-ok : goal.returns-clause-ok
returns-clause-ok c = (c.in_ok-name.name, c.in_ok-name.ensures.ok, c.in_ok-emit.ensures.emits)

pub returns-in_err-emit-clause-err : goal.returns-in_err-emit-clause-err
returns-in_err-emit-clause-err c =
    let exit = c.from_residual-in_err-emit in
    exits (FailsToCopyName c.args.decoder.now c.args.left.now (value c.args.encoder.now)) exit.result _ exit.ensures.1
    (unwritten c.in_ok-name.name c.next_name.new.decoder _ _ _ c.in_ok-name.ensures.ok c.in_err-emit.ensures.emits)

pub returns-in_err-name-clause-err : goal.returns-in_err-name-clause-err
returns-in_err-name-clause-err c =
    exits (FailsToCopyName c.args.decoder.now c.args.left.now (value c.args.encoder.now)) c.from_residual.result _ c.from_residual.ensures.1
    (unread _ c.in_err-name.ensures.err)

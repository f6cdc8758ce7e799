use Rattle.std.proofs.Common.{inr}
use Rattle.dnw_message_writer.proofs.Opts.{if_err_as, on_ok_as}
use Rattle.dnw_message_writer.proofs.state.WriterState.edns.Goals as goal

pub returns-then-is_err-clause-err : goal.returns-then-is_err-clause-err
returns-then-is_err-clause-err c =
    if_err_as c.add_opt-added.result _ _ (λ e fails. inr (c.in_ok-check_options.ensures.ok, fails))
    (rw c.give_back.ensures at c.add_opt-added.ensures.err)

pub returns-else-is_err-clause-ok : goal.returns-else-is_err-clause-ok
returns-else-is_err-clause-ok c =
    on_ok_as c.add_opt-added.result (λ adds. (c.in_ok-check_options.ensures.ok, adds))
    (rw c.give_back.ensures at c.add_opt-added.ensures.ok)

-- What an OPT record says is added, or not.
use Rattle.std.proofs.Common.{refl}
use Rattle.dnw_message_writer.proofs.state.WriterState.copy_opt.Goals as goal

pub returns-in-Ok-clause-ok : goal.returns-in-Ok-clause-ok
returns-in-Ok-clause-ok c = (c.said_by-edns.result, c.said_by-edns.ensures, rw c.held_for-held.ensures at c.in-Ok.ensures.ok)

pub returns-in-Err-clause-err : goal.returns-in-Err-clause-err
returns-in-Err-clause-err c =
    (c.said_by-edns.result, c.said_by-edns.ensures, c.in-Err.error, rw c.held_for-held.ensures at c.in-Err.ensures.err, refl)

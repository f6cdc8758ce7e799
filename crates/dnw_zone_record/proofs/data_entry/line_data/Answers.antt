use Rattle.std.proofs.Common.{refl}
use Rattle.dnw_zone_record.proofs.data_entry.line_data.Goals as goal

pub returns-in-Ok-clause-ok : goal.returns-in-Ok-clause-ok
returns-in-Ok-clause-ok c = c.in-Ok.ensures.ok

pub returns-in-Err-clause-err : goal.returns-in-Err-clause-err
returns-in-Err-clause-err c = (c.in-Err.error, c.in-Err.ensures.err, refl)

use Rattle.std.proofs.Common.{inr, refl}
use Rattle.dnw_record.specs.declared.rdata.RDataError.TheVariants.{Memory}
use Rattle.dnw_c_signed.proofs.zones.copy_next.Goals as goal

pub returns-in-Err-copy_within-clause-err : goal.returns-in-Err-copy_within-clause-err
returns-in-Err-copy_within-clause-err c =
    inr (c.in-Ok.item, c.next_record.new.reader, c.next_record.new.left, c.in-Ok.ensures.ok, c.in-Err-copy_within.ensures.err)

pub returns-then-is_err-clause-err : goal.returns-then-is_err-clause-err
returns-then-is_err-clause-err c =
    let within = c.in-Ok-copy_within.ensures.ok.0 in
    inr (c.in-Ok.item, c.next_record.new.reader, c.next_record.new.left, c.in-Ok.ensures.ok, inr (c.copy_within.new.left, within, (Memory, tt, refl)))

use Rattle.std.proofs.Common.{rules, arith}
use Rattle.std.proofs.lemmas.Grind.{common_steps, put_five}
use Rattle.dnw_message_read.proofs.text.write_period.Goals as goal

pub returns : goal.returns
returns g c = λ plain ok.
    let weeks = c.write_count.ensures plain (search rules) in
    let days = c.write_count-2.ensures weeks.plain (search rules) in
    let hours = c.write_count-3.ensures days.plain (search rules) in
    let minutes = c.write_count-4.ensures hours.plain (search rules) in
    let seconds = c.write_count-5.ensures minutes.plain ok in
    put_five g.W.Write.write_str_gives _ _ _ _ _ _ _ _ _ _ _ _ weeks days hours minutes seconds (rw (c.gap.ensures, c.gap-2.ensures, c.gap-3.ensures, c.gap-4.ensures) (grind (arith, common_steps)))

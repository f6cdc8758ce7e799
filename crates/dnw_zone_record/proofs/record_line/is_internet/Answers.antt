use Rattle.std.proofs.Common.{arith}
use Rattle.dnw_zone_record.proofs.UsualWords.{internet}
use Rattle.dnw_zone_record.proofs.record_line.is_internet.Goals as goal

pub returns-then-first-eq73 : goal.returns-then-first-eq73
returns-then-first-eq73 c is =
    internet c.args.word.now (omega (arith, c.in-len2.len_at_least, c.in-len2.len_below)) c.if-first-eq73.true (grind (arith, is))

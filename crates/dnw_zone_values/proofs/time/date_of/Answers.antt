use Rattle.std.proofs.Common.{arith, rules}
use Rattle.std.proofs.lemmas.Grind.{common_steps}
use Rattle.dnw_zone_values.proofs.Calendar.{date_is}
use Rattle.dnw_zone_values.proofs.time.date_of.Goals as goal

pub returns : goal.returns
returns c =
    date_is c.in-Ok.date c.unsigned_abs.result c.args.days (first_of (search rules, grind (arith, common_steps))) (first_of (search rules, grind (arith, common_steps)))

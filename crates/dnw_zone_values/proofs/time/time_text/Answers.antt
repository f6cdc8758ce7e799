use Rattle.std.proofs.Common.{◌/◌, ◌%◌, arith}
use Rattle.dnw_zone_values.proofs.Calendar.{printed}
use Rattle.dnw_zone_values.proofs.time.time_text.Goals as goal

pub returns : goal.returns
returns c =
    let is = printed c.date_of-year.result.0 c.date_of-year.result.1 c.date_of-year.result.2 (c.args.seconds / 86400) (c.args.seconds % 86400) c.args.seconds c.date_of-year.ensures (omega arith) (omega arith) in
    rw (c.push_two-7.ensures.digits, c.push_two-6.ensures.digits, c.push_two-5.ensures.digits, c.push_two-4.ensures.digits, c.push_two-3.ensures.digits, c.push_two-2.ensures.digits, c.push_two.ensures.digits, c.new-text.ensures) is

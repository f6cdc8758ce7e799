use Rattle.std.proofs.Common.{arith}
use Rattle.dnw_zone_values.proofs.Calendar.{day_by, whole}
use Rattle.dnw_zone_values.proofs.time.date_seconds.Goals as goal

pub returns-in_err-days : goal.returns-in_err-days
returns-in_err-days c = rw c.from_residual.ensures (λ seconds own.
    c.in_err-days.ensures own.days (day_by _ _ _ _ _ _ _ own.date (omega arith) (omega arith) (omega arith)))

pub returns : goal.returns
returns c =
    whole c.args.text.now c.in_ok-days.days _ _ _ c.moment_seconds.result c.requires (c.is_digits.ensures.yes c.if-not-is_digits.false)
    (day_by _ _ _ _ _ _ _ c.in_ok-days.ensures (omega arith) (omega arith) (omega arith))
    c.two_at-3.ensures.value c.two_at-4.ensures.value c.two_at-5.ensures.value c.moment_seconds.ensures

use Rattle.std.proofs.Common.{inl, inr}
use Rattle.dnw_zone_values.proofs.time.read_time.Goals as goal

pub returns-in_err-seconds : goal.returns-in_err-seconds
returns-in_err-seconds c =
    rw c.from_residual.ensures (λ value own. elim own [ inl date ↦ c.in_err-seconds.ensures date.0 date.1 | inr number ↦ number.0 c.if-text-eq-DATE_LEN.true ])

use Rattle.std.proofs.Common.{◌≡◌, ◌⊎◌, inl, inr}
use Rattle.dnw_c_base.proofs.Exits.{refused}
use Rattle.dnw_c_base.specs.declared.failure.Failure.TheVariants.{NoMemory}
use Rattle.dnw_c_signed.specs.CheckCalls.{FailsToCheck}
use Rattle.dnw_c_signed.proofs.zone_checks.put_findings.Goals as goal

pub returns-in_err-found : goal.returns-in_err-found
returns-in_err-found c =
    inr (refused (λ failure. FailsToCheck c.args.zone.now c.args.records.now failure ⊎ (failure ≡ NoMemory)) c.args.findings.now c.from_residual.result _ c.from_residual.ensures.1
    (inl c.in_err-found.ensures.err))

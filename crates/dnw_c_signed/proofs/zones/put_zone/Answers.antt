use Rattle.std.proofs.Common.{length, inl, inr, subst}
use Rattle.dnw_c_base.proofs.Exits.{refused}
use Rattle.dnw_c_base.specs.Results.{Puts}
use Rattle.dnw_c_signed.specs.ZoneCalls.{FailsToDigestZone}
use Rattle.dnw_c_signed.proofs.zones.put_zone.Goals as goal

pub returns-in_err-own : goal.returns-in_err-own
returns-in_err-own c =
    inr (refused (FailsToDigestZone c.args.apex.now c.args.records.now c.args.algorithm) c.args.digest.now c.from_residual.result _ c.from_residual.ensures.1 c.in_err-own.ensures.err)

pub returns : goal.returns
returns c =
    let puts = subst (λ own. Puts own (length own) c.args.digest.now c.put.new.buffer c.put.result) c.as_slice.ensures.value c.put.ensures in
    inl (c.in_ok-own.own.items, c.in_ok-own.ensures.ok, puts)

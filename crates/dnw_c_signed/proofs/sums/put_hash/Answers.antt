use Rattle.std.proofs.Common.{inr}
use Rattle.dnw_c_base.proofs.Exits.{refused}
use Rattle.dnw_c_signed.specs.SumCalls.{FailsToHashForm}
use Rattle.dnw_c_signed.proofs.sums.put_hash.Goals as goal

pub returns-in_err-own : goal.returns-in_err-own
returns-in_err-own c =
    inr (refused (FailsToHashForm c.args.name.now c.args.algorithm c.args.iterations c.args.most) c.args.hash.now c.from_residual.result _ c.from_residual.ensures.1 c.in_err-own.ensures.err)

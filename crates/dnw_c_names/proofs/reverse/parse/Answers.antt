use Rattle.std.proofs.Common.{inr}
use Rattle.dnw_c_base.proofs.Exits.{refused}
use Rattle.dnw_c_names.specs.ReverseCalls.{IsNoReverse}
use Rattle.dnw_c_names.proofs.reverse.parse.Goals as goal

pub returns-in_err-net : goal.returns-in_err-net
returns-in_err-net c = inr (refused (IsNoReverse c.args.form.now) c.args.address.now c.from_residual.result _ c.from_residual.ensures.1 c.in_err-net.ensures.err)

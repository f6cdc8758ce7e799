use Rattle.std.proofs.Common.{inl, inr}
use Rattle.dnw_c_base.proofs.Exits.{exits}
use Rattle.dnw_c_signed.specs.SigningCalls.{FailsToSignAt}
use Rattle.dnw_c_signed.proofs.signing.signed.Goals as goal

pub returns-in_err-rrsig-clause-err : goal.returns-in_err-rrsig-clause-err
returns-in_err-rrsig-clause-err c =
    exits (FailsToSignAt c.args.message.now c.args.start c.args.at) c.from_residual.result _ c.from_residual.ensures.1 (inl c.in_err-rrsig.ensures.err)

pub returns-in_err-records-clause-err : goal.returns-in_err-records-clause-err
returns-in_err-records-clause-err c =
    let exit = c.from_residual-in_err-records in
    exits (FailsToSignAt c.args.message.now c.args.start c.args.at) exit.result _ exit.ensures.1 (inr (inl c.in_err-records.ensures.err))

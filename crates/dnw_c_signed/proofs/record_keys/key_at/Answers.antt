use Rattle.std.proofs.Common.{inl}
use Rattle.dnw_c_base.proofs.Exits.{exits}
use Rattle.dnw_c_signed.specs.RecordKeyCalls.{FailsToKeyAt}
use Rattle.dnw_c_signed.proofs.record_keys.key_at.Goals as goal

pub returns-in_err-item-clause-err : goal.returns-in_err-item-clause-err
returns-in_err-item-clause-err c =
    exits (FailsToKeyAt c.args.message.now c.args.start) c.from_residual.result _ c.from_residual.ensures.1 (inl c.in_err-item.ensures.err)

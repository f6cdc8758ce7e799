use Rattle.std.proofs.Common.{refl, arith}
use Rattle.std.proofs.lemmas.Result.{on_ok_weaker}
use Rattle.dnw_signed.proofs.Lowering.{cut_owner}
use Rattle.dnw_signed.proofs.set.append_last.Goals as goal

pub returns-clause-ok : goal.returns-clause-ok
returns-clause-ok c =
    on_ok_weaker c.append_lowered-2.result
    (λ appends. cut_owner c.args.out.now.items _ _ c.args.own _ _ c.args.labels (omega (arith, c.requires, c.if-count-labels.false))
    refl c.last_labels.ensures c.in_ok-extend_from_slice.ensures.items appends) c.append_lowered-2.ensures.ok

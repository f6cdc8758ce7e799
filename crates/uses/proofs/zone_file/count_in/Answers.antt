use Rattle.std.proofs.Common.{sym, ◌∙◌, arith}
use Rattle.uses.proofs.CountedRecords.{counted, passed}
use Rattle.uses.proofs.zone_file.count_in.Goals as goal
use Rattle.uses.proofs.zone_file.count_in.Goals.{then-code, else-code}

pub loop-found-preserved : goal.loop-found-preserved
loop-found-preserved c =
    let before = c.loop-found.invariant in
    let within = c.loop-found-test.true in
    elim c.if-code.branch [
      | then-code w ↦
          let all = counted c.args.record_type c.args.records.now c.loop-found.found-index c.loop-found.count _ c.found-item.result within c.found-item.is before.all
          (sym c.code.ensures ∙ w.if-code.true ∙ c.code-in-loop-found.ensures) in
          record { all = omega (arith, w.count-is, all); few = omega (arith, w.count-is, before.few) }
      | else-code w ↦
          let all = passed c.args.record_type c.args.records.now c.loop-found.found-index c.loop-found.count _ c.found-item.result within c.found-item.is before.all
          (λ same. w.if-code.false (c.code.ensures ∙ same ∙ sym c.code-in-loop-found.ensures)) in
          record { all = omega (arith, w.count-is, all); few = omega (arith, w.count-is, before.few) }
    ]

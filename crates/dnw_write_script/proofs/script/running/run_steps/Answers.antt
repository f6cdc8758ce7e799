-- One step more has run.
use Rattle.std.proofs.Common.{◌+◌, ◌∙◌, map, take, sym, subst, arith}
use Rattle.dnw_write.specs.EncoderValue.{value}
use Rattle.dnw_write_script.specs.Script.{action}
use Rattle.dnw_write_script.proofs.Running.{HasRun, has_run_holds, has_run_more}
use Rattle.dnw_write_script.proofs.script.running.run_steps.Goals as goal

pub run_step-reply-requires : goal.run_step-reply-requires
run_step-reply-requires c =
    let (has, few, room, _, _, _) = c.loop-step.invariant in
    let (at_end, holds) = has_run_holds (value c.args.encoder.now) (value c.loop-step.encoder) _ c.loop-step.replies.items c.loop-step.places.items c.requires.begins has in
    record { at_end = at_end; holds = holds; room = omega (arith, few, room, c.loop-step-test.true) }

pub loop-step-preserved : goal.loop-step-preserved
loop-step-preserved c =
    let (has, few, room, count, space, lent) = c.loop-step.invariant in
    let v = value c.args.encoder.now in
    let w = value c.run_step-reply.new.encoder in
    let next = has_run_more c.args.steps.now c.run_step-reply.result c.loop-step-test.true c.step-item.is has c.run_step-reply.ensures.runs c.run_step-reply.ensures.tracks in (
      subst (λ rs. HasRun v (map action (take (c.loop-step.step-index + 1) c.args.steps.now)) rs w c.run_step-reply.new.places.items)
          (sym c.push_reserved.ensures.items) next,
      omega (arith, few, c.run_step-reply.ensures.few),
      omega (arith, room, c.run_step-reply.ensures.room),
      omega (arith, count, c.push_reserved.ensures.len),
      omega (arith, space, c.push_reserved.ensures.capacity),
      c.run_step-reply.ensures.lender ∙ lent,
    )

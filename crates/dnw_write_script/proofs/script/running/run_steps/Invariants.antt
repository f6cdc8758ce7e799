use Rattle.std.proofs.Common.{◌≡◌, ◌≤◌, length, map, take, vec_len}
use Rattle.std.specs.Vec.{vec_capacity}
use Rattle.dnw_write.specs.EncoderValue.{value, lender}
use Rattle.dnw_write_script.specs.Script.{action}
use Rattle.dnw_write_script.proofs.Running.{HasRun}
use Rattle.dnw_write_script.proofs.script.running.run_steps.Given as goal

-- the steps so far have run, and there is room for what the others add
abbrev pub invariant-loop-step : goal.invariant-loop-step
invariant-loop-step l =
    HasRun (value l.fn.encoder) (map action (take l.step-index l.steps)) l.replies.items (value l.encoder) l.places.items
    × (vec_len l.places ≤ l.step-index) × (length l.steps ≤ vec_capacity l.places)
    × (vec_len l.replies ≡ l.step-index) × (length l.steps ≤ vec_capacity l.replies)
    × (lender l.encoder ≡ lender l.fn.encoder)

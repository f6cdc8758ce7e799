-- What is promised of a run of a script.
use Rattle.std.specs.Prelude.{◌≡◌, ℕ, ◌≤◌, max, List, length, map, Result, IfOk, IfErr, OnErr}
use Rattle.std.specs.declared.vec.Vec.{Vec}
use Rattle.dnw_base.specs.declared.error.ProtoError.{ProtoError}
use Rattle.dnw_base.specs.Limits.{max_message}
use Rattle.dnw_write_script.specs.declared.script.Step.{Step}
use Rattle.dnw_write_script.specs.declared.script.Reply.{Reply}
use Rattle.dnw_write_script.specs.Script.{action}
use Rattle.dnw_write_script.specs.Pieces.{opening}
use Rattle.dnw_write_script.specs.Replies.{RepliesTo}
use Rattle.dnw_write_script.specs.Runs.{Run}
use Rattle.dnw_write_script.specs.Finished.{Finished, Shortest, largest_max}

-- The steps were run after the old bytes, with these limits on the candidates that are kept and on the names that are
-- compressed, and the buffer has the new bytes. It fails only if there are steps, and only for memory; then the buffer is
-- unchanged.
pub record Ran {Z : Type 0} (old : List ℕ) (candidates names : ℕ) (steps : List Step) (result : Result (Vec Reply Z) ProtoError) (new : List ℕ) : Type 0 where
  pub replies : IfOk result (λ replies. RepliesTo (opening (length old)) (map action steps) replies.items)
  pub finished : IfOk result (λ replies. Finished old (map action steps) replies.items new)
  pub shortest : IfOk result (λ replies. Shortest (length old) candidates names (map action steps) replies.items)
  pub runs : IfOk result (λ replies. Run old candidates names (map action steps) replies.items new)
  pub bounded : length new ≤ max (length old) (largest_max max_message (map action steps))
  pub err : IfErr result (λ e. (1 ≤ length steps) × (e ≡ ProtoError.Memory))
  pub same : OnErr result (new ≡ old)

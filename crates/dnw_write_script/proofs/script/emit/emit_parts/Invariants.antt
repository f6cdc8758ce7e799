use Rattle.std.proofs.Common.{◌≡◌, Ok, take}
use Rattle.dnw_write.specs.EncoderValue.{value, lender}
use Rattle.dnw_write_script.specs.Script.{EmitsParts}
use Rattle.dnw_write_script.proofs.script.emit.emit_parts.Given as goal

-- the parts so far were written
abbrev pub invariant-loop-part : goal.invariant-loop-part
invariant-loop-part l =
    EmitsParts (take l.part-index l.parts) (value l.fn.encoder) (Ok tt) (value l.encoder) × (lender l.encoder ≡ lender l.fn.encoder)

use Rattle.std.proofs.Common.{◌≡◌, ◌<◌, drop}
use Rattle.dnw_base.specs.CodeTexts.{decimal_after}
use Rattle.dnw_base.proofs.code_text.decimal_code.Given as goal

abbrev pub invariant-loop-i : goal.invariant-loop-i
invariant-loop-i l = (l.code < 65536) × (decimal_after l.code (drop l.i l.fn.digits) ≡ decimal_after 0 l.fn.digits)

use Rattle.std.proofs.Common.{arith, ◌∙◌, sym}
use Rattle.dnw_base.proofs.Digits.{whole_code}
use Rattle.dnw_base.proofs.code_text.decimal_code.Goals as goal

pub returns : goal.returns
returns c = whole_code c.loop-i.code c.loop-i.i c.args.digits.now c.loop-i.invariant.0 (omega arith) (sym c.is_empty.ensures ∙ c.if-is_empty.false) c.loop-i.invariant.1

use Rattle.std.proofs.Common.{sym, ◌∙◌, arith}
use Rattle.dnw_zone_values.proofs.PrefixesBack.{zero_last, some_last}
use Rattle.dnw_zone_values.proofs.prefix.without_zeros.Goals as goal

pub returns-then-last-ne0-clause-is : goal.returns-then-last-ne0-clause-is
returns-then-last-ne0-clause-is c =
    sym (some_last c.loop-last.left.now c.in-Some.rest.now c.in-Some.last.now c.in-Some.ensures.cases.0 c.if-last-ne0.true) ∙ c.loop-last.invariant.1

pub loop-last-preserved : goal.loop-last-preserved
loop-last-preserved c = (
  omega (arith, c.in-Some.ensures.cases.1, c.loop-last.invariant.0),
  zero_last c.loop-last.left.now c.in-Some.rest.now c.in-Some.last.now c.in-Some.ensures.cases.0 c.if-last-ne0.false ∙ c.loop-last.invariant.1,
)

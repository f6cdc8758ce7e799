use Rattle.std.proofs.Common.{arith, eqb-true, sym, ap, ◌∙◌}
use Rattle.std.specs.Str.{chars}
use Rattle.std.proofs.lemmas.List.{nil_from_length}
use Rattle.std.proofs.lemmas.Str.{chars-nil}
use Rattle.dnw_name_text.proofs.Wrong.{start, next, read_all, left, wrong}
use Rattle.dnw_name_text.proofs.ascii_fault.first_fault.Goals as goal

pub loop-rest-init : goal.loop-rest-init
loop-rest-init c = start _ c.utf8.text

pub loop-rest-preserved : goal.loop-rest-preserved
loop-rest-preserved c = next _ _ _ _ _ c.loop-rest.invariant c.in-Ok.ensures.ok

pub overflow_sub-result : goal.overflow_sub-result
overflow_sub-result c = left _ _ _ c.utf8.text c.loop-rest.invariant

pub returns-in-Err : goal.returns-in-Err
returns-in-Err c = wrong _ _ _ _ _ c.utf8.text c.loop-rest.invariant (omega (arith, left _ _ _ c.utf8.text c.loop-rest.invariant)) c.in-Err.ensures.err

pub returns : goal.returns
returns c =
    let none = eqb-true _ _ (sym c.is_empty.ensures ∙ c.loop-rest-test.false) in
    read_all _ _ _ c.loop-rest.invariant (ap chars (nil_from_length _ none) ∙ chars-nil)

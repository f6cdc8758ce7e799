use Rattle.std.proofs.Common.{◌≡◌, List, ℕ, sym, subst, arith}
use Rattle.dnw_zone_values.specs.ParamKeys.{IsKey}
use Rattle.dnw_zone_values.proofs.Steps.{one_key}
use Rattle.dnw_zone_values.proofs.lists.push_key.Goals as goal

pub returns-in_default-key_of : goal.returns-in_default-key_of
returns-in_default-key_of c = λ own is. c.in_default-key_of.ensures is.0 (subst (λ (t : List ℕ). IsKey t is.0) (sym c.in-Ok.ensures.cases.0) is.2)

pub returns-then-key-eq0 : goal.returns-then-key-eq0
returns-then-key-eq0 c = λ own is.
    let same : is.0 ≡ c.in-Some.key = one_key c.in-Ok.text.now is.0 c.in-Some.key (subst (λ (t : List ℕ). IsKey t is.0) (sym c.in-Ok.ensures.cases.0) is.2) c.in-Some.ensures in
    omega (arith, same, is.3, c.if-key-eq0.true)

use Rattle.std.proofs.Common.{length, ap, arith}
use Rattle.dnw_data.proofs.Taking.{moves_on}
use Rattle.dnw_data.proofs.fields.FieldsIterator.next.Goals as goal

pub invariant_of-self : goal.invariant_of-self
invariant_of-self c =
    let (later, same) = moves_on _ _ _ _ c.in-Ok.ensures.ok in
    (omega (arith, later, c.self.invariant.0), omega (arith, c.self.invariant.1, c.in-Some.ensures.cases.1))

pub returns-in-Ok-clause-goes : goal.returns-in-Ok-clause-goes
returns-in-Ok-clause-goes c =
    let (later, same) = moves_on _ _ _ _ c.in-Ok.ensures.ok in
    record {
      on = λ _. (tt, tt, rw (← c.self.view_is) (omega (arith, later, ap length same, c.in-Some.ensures.cases.1)));
      keeps = tt;
      rests = λ _. tt;
    }

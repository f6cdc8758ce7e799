use Rattle.std.proofs.Common.{length, sym, ap, ◌∙◌, arith}
use Rattle.dnw_message_read.proofs.Extension.{options_after, options_first}
use Rattle.dnw_message_read.proofs.edns.EdnsOptionsIterator.next.Goals as goal

pub returns-clause-steps : goal.returns-clause-steps
returns-clause-steps c = sym c.self.view_is ∙ options_first _ _ _ c.in_ok-option.ensures c.self.invariant

pub invariant_of-self : goal.invariant_of-self
invariant_of-self c = options_after _ _ _ c.in_ok-option.ensures c.self.invariant

pub returns-clause-goes : goal.returns-clause-goes
returns-clause-goes c =
    let shorter = ap length (returns-clause-steps c) in
    record { on = λ _. (tt, tt, omega arith); keeps = tt; rests = λ _. tt }

use Rattle.std.proofs.Common.{◌-◌, length, sym, ap, ◌∙◌, arith}
use Rattle.dnw_message_read.specs.Messages.{query_of, question_rest}
use Rattle.dnw_message_read.proofs.Lending.{next_first, next_reads}
use Rattle.dnw_message_read.proofs.items.QueriesIterator.next.Goals as goal
use Rattle.dnw_message_read.proofs.items.QueriesIterator.next.Goals.{After-unwrap}

pub unwrap-requires : goal.unwrap-requires
unwrap-requires c =
    next_reads question_rest c.self.inside.reader c.self.inside.left (c.self.inside.left - 1) c.read_next.result c.self.invariant (omega arith) c.read_next.ensures.err

pub returns-clause-steps : goal.returns-clause-steps
returns-clause-steps c =
    let taken = rw c.unwrap.ensures at c.read_next.ensures.ok in
    sym c.self.view_is ∙ (next_first question_rest query_of c.self.inside.reader c.read_next.new.reader c.self.inside.left (c.self.inside.left - 1) _ c.self.invariant (omega arith) taken).0

pub invariant_of-self : goal.invariant_of-self
invariant_of-self c =
    let taken = rw c.unwrap.ensures at c.read_next.ensures.ok in
    (next_first question_rest query_of c.self.inside.reader c.read_next.new.reader c.self.inside.left (c.self.inside.left - 1) _ c.self.invariant (omega arith) taken).1

pub returns-clause-goes : goal.returns-clause-goes
returns-clause-goes c =
    let shorter = ap length (returns-clause-steps c) in
    record { on = λ _. (tt, tt, omega arith); keeps = tt; rests = λ _. tt }

use Rattle.std.proofs.Common.{◌-◌, length, sym, ap, ◌∙◌, arith}
use Rattle.std.proofs.lemmas.Result.{IfErr-weaker}
use Rattle.dnw_message_read.specs.Messages.{record_in, record_rest}
use Rattle.dnw_message_read.proofs.Lending.{next_first, next_reads, record_fails, record_taken}
use Rattle.dnw_message_read.proofs.items.RecordsIterator.next.Goals as goal
use Rattle.dnw_message_read.proofs.items.RecordsIterator.next.Goals.{After-unwrap}

pub unwrap-requires : goal.unwrap-requires
unwrap-requires c =
    next_reads record_rest c.self.inside.reader c.self.inside.left (c.self.inside.left - 1) c.read_next.result c.self.invariant (omega arith)
    (IfErr-weaker c.read_next.result _ _ (record_fails c.self.inside.reader) c.read_next.ensures.err)

pub returns-clause-steps : goal.returns-clause-steps
returns-clause-steps c =
    let taken = rw c.unwrap.ensures at c.read_next.ensures.ok in
    sym c.self.view_is ∙ (next_first record_rest record_in c.self.inside.reader c.read_next.new.reader c.self.inside.left (c.self.inside.left - 1) _ c.self.invariant (omega arith) (record_taken _ _ _ taken)).0

pub invariant_of-self : goal.invariant_of-self
invariant_of-self c =
    let taken = rw c.unwrap.ensures at c.read_next.ensures.ok in
    (next_first record_rest record_in c.self.inside.reader c.read_next.new.reader c.self.inside.left (c.self.inside.left - 1) _ c.self.invariant (omega arith) (record_taken _ _ _ taken)).1

pub returns-clause-goes : goal.returns-clause-goes
returns-clause-goes c =
    let shorter = ap length (returns-clause-steps c) in
    record { on = λ _. (tt, tt, omega arith); keeps = tt; rests = λ _. tt }

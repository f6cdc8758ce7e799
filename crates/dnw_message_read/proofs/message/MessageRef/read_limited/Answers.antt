use Rattle.std.proofs.Common.{◌≤◌, ℕ, ◌||◌, inl}
use Rattle.std.proofs.lemmas.Result.{err_from_is_err_and}
use Rattle.dnw_message_read.specs.Messages.{MessageAt}
use Rattle.dnw_message_read.specs.Inside.Kept.{IsKept, message_in}
use Rattle.dnw_message_read.proofs.Whole.{fails_in, message_passed, past_answers, past_authorities, past_queries}
use Rattle.dnw_message_read.proofs.message.MessageRef.read_limited.Goals as goal
use Rattle.dnw_message_read.proofs.message.MessageRef.read_limited.Goals.{After-index}

pub returns-in_err-in_answers-clause-err : goal.returns-in_err-in_answers-clause-err
returns-in_err-in_answers-clause-err c =
    let p = err_from_is_err_and c.from_residual-in_err-in_answers.result c.from_residual-in_err-in_answers.ensures.1 in
    let (whole, is) = c.in_ok-header.ensures.ok in
    let h = c.in_ok-header.header in
    rw (p.1, p.2) (fails_in _ _ h c.reader_at.result _ whole is c.reader_at.ensures
    (past_queries h _ c.pass_section.new.walk.reader _ _ _ _ c.in_ok-pass_section.ensures.ok (inl c.in_err-in_answers.ensures.err)))

pub returns-in_err-in_authorities-clause-err : goal.returns-in_err-in_authorities-clause-err
returns-in_err-in_authorities-clause-err c =
    let p = err_from_is_err_and c.from_residual-in_err-in_authorities.result c.from_residual-in_err-in_authorities.ensures.1 in
    let (whole, is) = c.in_ok-header.ensures.ok in
    let h = c.in_ok-header.header in
    rw (p.1, p.2) (fails_in _ _ h c.reader_at.result _ whole is c.reader_at.ensures
    (past_queries h _ c.pass_section.new.walk.reader _ _ _ _ c.in_ok-pass_section.ensures.ok
    (past_answers h _ c.pass_section-2.new.walk.reader _ _ _ _ c.in_ok-in_answers.ensures.ok (inl c.in_err-in_authorities.ensures.err))))

pub returns-in_err-in_additionals-clause-err : goal.returns-in_err-in_additionals-clause-err
returns-in_err-in_additionals-clause-err c =
    let p = err_from_is_err_and c.from_residual-in_err-in_additionals.result c.from_residual-in_err-in_additionals.ensures.1 in
    let (whole, is) = c.in_ok-header.ensures.ok in
    let h = c.in_ok-header.header in
    rw (p.1, p.2) (fails_in _ _ h c.reader_at.result _ whole is c.reader_at.ensures
    (past_queries h _ c.pass_section.new.walk.reader _ _ _ _ c.in_ok-pass_section.ensures.ok
    (past_answers h _ c.pass_section-2.new.walk.reader _ _ _ _ c.in_ok-in_answers.ensures.ok
    (past_authorities h _ c.pass_section-3.new.walk.reader _ _ _ _ c.in_ok-in_authorities.ensures.ok (inl c.in_err-in_additionals.ensures.err)))))

passed : (c : After-index)
    → ((k : ℕ) × MessageAt c.args.octets.now (message_in c.args.octets.now c.in_ok-header.header c.index-answers.result c.index-authorities.result c.index-additionals.result c.index.result) k
    × (k ≤ c.args.max_pointers))
    × IsKept c.args.octets.now c.in_ok-header.header c.index-answers.result c.index-authorities.result c.index-additionals.result c.index.result (c.in_ok-in_answers.in_answers || c.in_ok-in_authorities.in_authorities)
    c.in_ok-in_additionals.in_additionals
passed c =
    let (whole, is) = c.in_ok-header.ensures.ok in
    rw (c.index-answers.ensures.index, c.index-authorities.ensures.index, c.index-additionals.ensures.index, c.index.ensures.index)
    (message_passed c.args.octets.now c.args.max_pointers c.in_ok-header.header c.reader_at.result c.pass_section.new.walk.reader c.pass_section-2.new.walk.reader
    c.pass_section-3.new.walk.reader c.pass_section-4.new.walk.reader _ _ _ _ _ _ _ _ whole is c.reader_at.ensures c.in_ok-pass_section.ensures.ok c.in_ok-in_answers.ensures.ok
    c.in_ok-in_authorities.ensures.ok c.in_ok-in_additionals.ensures.ok)

pub invariant_of-result : goal.invariant_of-result
invariant_of-result c = (passed c).1

pub returns-clause-ok : goal.returns-clause-ok
returns-clause-ok c = (passed c).0

use Rattle.dnw_message_writer.specs.Copying.{cut, in_additionals, in_authorities}
use Rattle.std.proofs.lemmas.Result.{IfOk-weaker}
use Rattle.dnw_message_writer.proofs.Opts.{if_err_as}
use Rattle.dnw_message_writer.proofs.state.WriterState.copy_sections.Goals as goal

pub returns-in-Err-copy_sets-clause-err : goal.returns-in-Err-copy_sets-clause-err
returns-in-Err-copy_sets-clause-err c =
    in_authorities c.copy_sets.new.self c.copy_sets.new.message c.in-Ok.all (rw c.answers.ensures at c.in-Ok.ensures.ok)
    (rw c.authorities.ensures at c.in-Err-copy_sets.ensures.err)

pub returns-in-Err-copy_sets-2-clause-err : goal.returns-in-Err-copy_sets-2-clause-err
returns-in-Err-copy_sets-2-clause-err c =
    in_additionals c.copy_sets.new.self c.copy_sets-2.new.self c.copy_sets.new.message c.copy_sets-2.new.message c.in-Ok.all c.in-Ok-copy_sets.all
    (rw c.answers.ensures at c.in-Ok.ensures.ok) (rw c.authorities.ensures at c.in-Ok-copy_sets.ensures.ok)
    (rw c.additionals.ensures at c.in-Err-copy_sets-2.ensures.err)

pub returns-clause-ok : goal.returns-clause-ok
returns-clause-ok c =
    IfOk-weaker c.what_is_missing.result _ _
    (λ missing misses. record {
      all_answers = c.in-Ok.all;
      answered = c.copy_sets.new.self;
      answered_by = c.copy_sets.new.message;
      answers = rw c.answers.ensures at c.in-Ok.ensures.ok;
      all_authorities = c.in-Ok-copy_sets.all;
      led = c.copy_sets-2.new.self;
      led_by = c.copy_sets-2.new.message;
      authorities = rw c.authorities.ensures at c.in-Ok-copy_sets.ensures.ok;
      all_additionals = c.in-Ok-copy_sets-2.all;
      additionals = rw c.additionals.ensures at c.in-Ok-copy_sets-2.ensures.ok;
      missing_is = misses;
    }) (rw c.are_all.ensures at c.what_is_missing.ensures.ok)

pub returns-clause-err : goal.returns-clause-err
returns-clause-err c =
    if_err_as c.what_is_missing.result _ _
    (λ e uncut. cut c.copy_sets.new.self c.copy_sets-2.new.self c.copy_sets-3.new.self c.copy_sets.new.message c.copy_sets-2.new.message
    c.copy_sets-3.new.message c.in-Ok.all c.in-Ok-copy_sets.all c.in-Ok-copy_sets-2.all (rw c.answers.ensures at c.in-Ok.ensures.ok)
    (rw c.authorities.ensures at c.in-Ok-copy_sets.ensures.ok) (rw c.additionals.ensures at c.in-Ok-copy_sets-2.ensures.ok) uncut)
    (rw c.are_all.ensures at c.what_is_missing.ensures.err)

use Rattle.std.proofs.Common.{inl, inr}
use Rattle.dnw_message_writer.proofs.Opts.{if_err_as, on_ok_as}
use Rattle.dnw_message_writer.proofs.state.WriterState.ask.Goals as goal

pub returns-in-Err-question-clause-err : goal.returns-in-Err-question-clause-err
returns-in-Err-question-clause-err c =
    inr (c.begin.new.self, c.begin.new.message, c.in_default.ensures.ok, inl c.in-Err-question.ensures.err)

pub returns-clause-ok : goal.returns-clause-ok
returns-clause-ok c =
    on_ok_as c.say_size.result
    (λ added. (c.begin.new.self, c.begin.new.message, c.in_default.ensures.ok, c.question.new.self, c.question.new.message, c.in_default-question.ensures.ok, added))
    c.say_size.ensures.ok

pub returns-clause-err : goal.returns-clause-err
returns-clause-err c =
    if_err_as c.say_size.result _ _
    (λ e fails. inr (
      c.begin.new.self,
      c.begin.new.message,
      c.in_default.ensures.ok,
      inr (c.question.new.self, c.question.new.message, c.in_default-question.ensures.ok, fails),
    ))
    c.say_size.ensures.err

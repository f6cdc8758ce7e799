-- What is next in a list is written or left out.
use Rattle.std.proofs.Common.{◌≡◌, rules, subst, sym}
use Rattle.std.proofs.lemmas.Result.{on_ok_weaker}
use Rattle.dnw_message_writer.proofs.Opts.{if_err_as}
use Rattle.dnw_message_writer.specs.Lists.{IsNoEnd, PassesEnd}
use Rattle.dnw_message_writer.proofs.ListRuns.{end_goes, passed, passed_none, question_goes}
use Rattle.dnw_message_writer.proofs.list.writing.write_next.Goals as goal

pub returns-then-octet-eq-QUESTION-clause-ok : goal.returns-then-octet-eq-QUESTION-clause-ok
returns-then-octet-eq-QUESTION-clause-ok c =
    on_ok_weaker c.write_question.result (question_goes c.args.bare c.args.purpose.now c.args.decoder.now c.write_question.new.decoder c.args.writer.now c.write_question.new.writer
    c.args.message.now c.write_question.new.message c.args.left.now) c.write_question.ensures.ok

pub returns-then-passed-clause-ok : goal.returns-then-passed-clause-ok
returns-then-passed-clause-ok c =
    end_goes c.args.bare c.args.purpose.now c.octet_at-octet.result c.args.decoder.now c.pass_end.new.decoder c.args.writer.now c.args.message.now
    c.args.left.now
    (subst (PassesEnd c.args.bare c.octet_at-octet.result c.args.decoder.now c.pass_end.new.decoder) c.if-passed.true c.in_ok-passed.ensures.ok)

pub write_set-requires-clause-no_end : goal.write_set-requires-clause-no_end
write_set-requires-clause-no_end c =
    let none = subst (PassesEnd c.args.bare c.octet_at-octet.result c.args.decoder.now c.pass_end.new.decoder) c.if-passed.false c.in_ok-passed.ensures.ok in
    subst (IsNoEnd c.octet_at-octet.result) (sym none.0) none.1

pub returns-clause-ok : goal.returns-clause-ok
returns-clause-ok c =
    let shut : c.rank.result ≡ c.args.left.now.closed = search rules in
    on_ok_weaker c.leave_out.result
    (passed c.args.bare c.args.purpose.now c.octet_at-octet.result c.in-Some.section c.args.decoder.now c.pass_end.new.decoder c.args.writer.now
    c.args.message.now c.args.left.now
    (subst (PassesEnd c.args.bare c.octet_at-octet.result c.args.decoder.now c.pass_end.new.decoder) c.if-passed.false c.in_ok-passed.ensures.ok)
    c.in-Some.ensures.some c.rank.result c.leave_out.new.decoder c.leave_out.new.left c.what_is_there-there.result c.what_is_there-there.ensures
    c.rank.ensures.value shut) c.leave_out.ensures.ok

pub returns-clause-err : goal.returns-clause-err
returns-clause-err c =
    if_err_as c.leave_out.result _ _
    (λ failure lacks.
    passed_none c.args.bare c.args.purpose.now c.octet_at-octet.result c.in-Some.section c.args.decoder.now c.pass_end.new.decoder c.args.writer.now
    c.args.message.now c.args.left.now
    (subst (PassesEnd c.args.bare c.octet_at-octet.result c.args.decoder.now c.pass_end.new.decoder) c.if-passed.false c.in_ok-passed.ensures.ok)
    c.in-Some.ensures.some failure c.octet_at-octet.ensures lacks) c.leave_out.ensures.err

-- A set is added, left out, or fails.
use Rattle.std.proofs.Common.{◌≡◌, ◌≢◌, ◌∙◌, true, ap, inl, rules, subst, sym}
use Rattle.std.proofs.lemmas.Result.{on_ok_weaker}
use Rattle.dnw_message_writer.specs.Needs.{is_uncut}
use Rattle.dnw_message_writer.proofs.Opts.{if_err_as}
use Rattle.dnw_message_writer.specs.declared.list.ListError.TheVariants.{TooLong}
use Rattle.dnw_message_writer.specs.Lists.{IsNoEnd, progress, set}
use Rattle.dnw_message_writer.specs.declared.list.halves.There.{There}
use Rattle.dnw_message_writer.proofs.ListRuns.{lacks_item, set_fails, set_left_out, taken_message}
use Rattle.dnw_message_writer.proofs.list.writing.write_set.Goals as goal

pub add_records-requires-clause-no_end : goal.add_records-requires-clause-no_end
add_records-requires-clause-no_end c = subst (IsNoEnd c.args.octet) (sym c.again-ahead.ensures) c.requires.no_end

pub returns-in-Ok-clause-ok : goal.returns-in-Ok-clause-ok
returns-in-Ok-clause-ok c =
    set c.args.octet c.args.section c.requires.octet c.requires.open (rw c.again-ahead.ensures at c.in-Ok.ensures.ok)
    (ap (λ (there : There). record c.args.left.now { start = there.start }) c.requires.there)

pub returns-else-is_uncut-clause-ok : goal.returns-else-is_uncut-clause-ok
returns-else-is_uncut-clause-ok c =
    let w = c.args.writer.now in
    let m = c.args.message.now in
    let same = taken_message c.args.section w.end m c.add_records.new.message c.take_back.new.message c.two_at-count.result c.add_records.auto.message
    c.in-Err-TooLong.ensures.kept (rw c.offset_of_count.ensures.value at c.two_at-count.ensures) c.take_back.ensures.count in
    on_ok_weaker c.leave_out.result
    (set_left_out c.args.bare c.args.purpose.now c.args.octet c.args.section (progress c.args.decoder.now w m c.args.left.now) c.requires.octet c.requires.open
    c.leave_out.new.decoder c.in-Err-TooLong.field-0 c.take_back.new.writer c.take_back.new.message c.leave_out.new.left c.args.there c.requires.there
    (rw c.again-ahead.ensures at c.in-Err-TooLong.ensures.err) c.in-Err-TooLong.field-0-is
    (sym c.is_uncut.ensures ∙ c.if-is_uncut.false) (c.take_back.ensures.state, same)) c.leave_out.ensures.ok

pub returns-else-is_uncut-clause-err : goal.returns-else-is_uncut-clause-err
returns-else-is_uncut-clause-err c =
    if_err_as c.leave_out.result _ _
    (λ failure lacks. inl (lacks_item c.args.octet c.args.section c.args.decoder.now failure c.requires.octet c.requires.begins lacks))
    c.leave_out.ensures.err

pub returns-then-is_uncut-clause-err : goal.returns-then-is_uncut-clause-err
returns-then-is_uncut-clause-err c =
    let uncut : is_uncut c.args.purpose.now ≡ true = sym c.is_uncut.ensures ∙ c.if-is_uncut.true in
    set_fails c.args.bare c.args.purpose.now c.args.octet c.args.section (progress c.args.decoder.now c.args.writer.now c.args.message.now c.args.left.now) c.requires.octet
    c.requires.open TooLong c.requires.begins
    (rw (c.again-ahead.ensures, c.in-Err-TooLong.field-0-is) at c.in-Err-TooLong.ensures.err) (λ long. uncut)

pub returns-in-Err : goal.returns-in-Err
returns-in-Err c =
    let other : c.in-Err.failure ≢ TooLong = search rules in
    record {
      ok = tt;
      err = set_fails c.args.bare c.args.purpose.now c.args.octet c.args.section (progress c.args.decoder.now c.args.writer.now c.args.message.now c.args.left.now)
          c.requires.octet c.requires.open c.in-Err.failure c.requires.begins (rw c.again-ahead.ensures at c.in-Err.ensures.err)
          (λ long. absurd (other long));
    }

use Rattle.std.proofs.Common.{length, arith}
use Rattle.dnw_message_writer.proofs.StandsBefore.{label_before, whole_before}
use Rattle.dnw_message_writer.proofs.standing.stands_before.Goals as goal

pub labels-init : goal.labels-init
labels-init c = record {
  end = length c.args.message.now;
  here = omega (arith, c.if-start-gap.false);
  more = omega (arith, c.requires.gap);
  before = omega arith;
  within = c.requires.gap;
  after_header = c.requires.header;
  order = omega arith;
  goes_on = λ stands. stands;
}

pub returns-then-is_whole_before : goal.returns-then-is_whole_before
returns-then-is_whole_before c = λ yes.
    whole_before c.args.message.now c.args.gap c.args.start c.args.labels c.labels.spot c.in-Some.here c.labels.rest c.labels.invariant c.in-Some.ensures
    c.as_wire-suffix.result.now c.as_wire-suffix.ensures.form c.as_wire-suffix.ensures.labels.each (c.is_whole_before.ensures c.if-is_whole_before.true)

pub labels-preserved : goal.labels-preserved
labels-preserved c =
    label_before c.args.message.now c.args.gap c.args.start c.args.labels c.labels.spot c.in-Some.here c.labels.rest c.labels.invariant c.in-Some.ensures
    c.in-Some-next.label.now c.as_wire-suffix.result.now c.next.new.self c.in-Some-next.ensures.steps c.as_wire-suffix.ensures.form
    (c.begins_before.ensures c.if-not-begins_before.false)

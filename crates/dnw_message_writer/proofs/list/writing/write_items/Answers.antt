-- The items of a list are written one after another.
use Rattle.std.proofs.Common.{ap, arith, length, refl, ◌∙◌}
use Rattle.dnw_message_writer.specs.Lists.{progress}
use Rattle.dnw_message_writer.proofs.ListRuns.{goes_onward, gone_none, gone_on}
use Rattle.dnw_message_writer.proofs.list.writing.write_items.Goals as goal

pub list-init : goal.list-init
list-init c = gone_none c.args.items.now c.args.bare c.args.purpose.now c.args.writer.now c.args.message.now c.new-decoder.result _ c.new-decoder.ensures refl

pub list-smaller : goal.list-smaller
list-smaller c =
    let onward = goes_onward c.args.bare c.args.purpose.now (progress c.list.decoder c.list.writer c.list.message c.list.left) (progress c.write_next.new.decoder c.write_next.new.writer c.write_next.new.message c.write_next.new.left) c.in_ok-write_next.ensures.ok in
    omega (arith, onward.further, onward.inside, ap length onward.same, ap length c.list.invariant.same)

pub list-preserved : goal.list-preserved
list-preserved c =
    gone_on c.list.invariant (progress c.write_next.new.decoder c.write_next.new.writer c.write_next.new.message c.write_next.new.left) c.in_ok-write_next.ensures.ok

pub returns-clause-ok : goal.returns-clause-ok
returns-clause-ok c =
    let ends = c.is_empty.ensures.0 c.list-test.false in
    (c.list.decoder, c.list.left, c.list.invariant.goes, refl, ends ∙ ap length c.list.invariant.same)

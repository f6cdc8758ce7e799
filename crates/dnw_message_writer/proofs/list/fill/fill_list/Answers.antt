-- Records are added from an offset on, up to the first that is not.
use Rattle.std.proofs.Common.{◌≡◌, ap, arith, length, sym, ◌∙◌}
use Rattle.dnw_base.specs.Decoder.{Decoder}
use Rattle.dnw_message_writer.proofs.ListFilling.{filled_fails, filled_none, filled_on, filled_some, next_onward}
use Rattle.dnw_message_writer.proofs.list.fill.fill_list.Goals as goal

pub items-init : goal.items-init
items-init c =
    filled_none c.args.items.now c.args.start c.args.writer.now c.args.message.now c.in-Some.decoder c.in-Some.ensures.some.0 c.in-Some.ensures.some.1

pub returns-then-next-start : goal.returns-then-next-start
returns-then-next-start c =
    let same = c.in-Err.ensures.same in
    let at : c.items.decoder.index ≡ c.args.start = ap (λ (e : Decoder). e.index) (sym same.0) ∙ (sym c.index-next.ensures.index ∙ c.if-next-start.true) in
    filled_fails c.items.invariant c.in-Err.failure c.add_next-added.new.writer c.add_next-added.new.message c.in-Err.ensures.err same.1 at

pub returns-in-Err : goal.returns-in-Err
returns-in-Err c =
    let same = c.in-Err.ensures.same in
    filled_some c.items.invariant c.in-Err.failure c.add_next-added.new.writer c.add_next-added.new.message c.in-Err.ensures.err same.1
    c.index-next.result (c.index-next.ensures.index ∙ ap (λ (e : Decoder). e.index) same.0) c.if-next-start.false

pub items-smaller : goal.items-smaller
items-smaller c =
    let onward = next_onward c.in_default-added.ensures.ok in
    omega (arith, onward.further, onward.inside, ap length onward.same, ap length c.items.invariant.same)

pub items-preserved : goal.items-preserved
items-preserved c =
    filled_on c.items.invariant c.add_next-added.new.decoder c.add_next-added.new.writer c.add_next-added.new.message c.in_default-added.ensures.ok

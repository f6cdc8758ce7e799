use Rattle.std.proofs.Common.{◌-◌, ◌<◌, Bool, false, true, length, sym, ◌∙◌, ap, subst, arith}
use Rattle.dnw_message_writer.specs.ListResults.{at_offset}
use Rattle.dnw_message_writer.specs.Lists.{IsHalfListed, comes_last}
use Rattle.dnw_message_writer.proofs.ListHalves.{half_over, half_past, half_with, half_without, none_at_end, none_listed}
use Rattle.dnw_message_writer.proofs.ListItems.{record_onward}
use Rattle.dnw_message_writer.proofs.list.halves.is_half_listed.Goals as goal

pub returns-then-count-eq0 : goal.returns-then-count-eq0
returns-then-count-eq0 c =
    half_over c.args.count (at_offset c.args.list.now c.args.start) c.args.item.now false (omega (arith, c.if-count-eq0.true))

pub returns : goal.returns
returns c =
    c.there.invariant.0 c.there.half
    (half_over c.there.more c.there.decoder c.args.item.now c.there.half (omega (arith, c.there-test.false)))

pub returns-in_default : goal.returns-in_default
returns-in_default c =
    let d = at_offset c.args.list.now c.args.start in
    let some : 0 < c.args.count = omega (arith, c.if-count-eq0.false) in
    half_without c.args.count d c.args.item.now false some (none_at_end d (omega (arith, c.in_default.ensures.none)))

pub returns-then-is_empty : goal.returns-then-is_empty
returns-then-is_empty c =
    let ends = c.is_empty.ensures.0 c.if-is_empty.true in
    c.there.invariant.0 true
    (half_without c.there.more c.there.decoder c.args.item.now c.there.half c.there-test.true (none_at_end c.there.decoder (omega (arith, ends))))

pub returns-in_default-read_record : goal.returns-in_default-read_record
returns-in_default-read_record c =
    c.there.invariant.0 true
    (half_without c.there.more c.there.decoder c.args.item.now c.there.half c.there-test.true
    (none_listed c.there.decoder c.in_default-read_record.ensures.err.0))

pub returns-then-are_the_same : goal.returns-then-are_the_same
returns-then-are_the_same c =
    c.there.invariant.0 false
    (half_with c.there.more c.octet_at-octet.result c.there.decoder c.read_record.new.decoder c.in-Ok.record c.args.item.now c.there.half
    c.there-test.true (c.octet_at-octet.ensures, c.in-Ok.ensures.ok) (sym c.is_put_last.ensures ∙ c.if-is_put_last.false)
    (sym c.are_the_same.ensures ∙ c.if-are_the_same.true))

pub there-preserved : goal.there-preserved
there-preserved c =
    let takes = c.in-Ok.ensures.ok in (
      λ half others.
          c.there.invariant.0 half
          (half_past c.there.more c.octet_at-octet.result c.there.decoder c.read_record.new.decoder c.in-Ok.record c.args.item.now c.there.half
          c.there-test.true (c.octet_at-octet.ensures, takes) (sym c.is_put_last.ensures ∙ c.if-is_put_last.false) half
          (sym c.are_the_same.ensures ∙ c.if-are_the_same.false)
          (subst (λ (before : Bool). IsHalfListed c.args.item.now (c.there.more - 1) c.read_record.new.decoder before half) c.or_halves-half.ensures others)),
      (record_onward takes).inside,
    )

pub there-smaller : goal.there-smaller
there-smaller c =
    let onward = record_onward c.in-Ok.ensures.ok in
    omega (arith, onward.further, onward.inside, ap length onward.same)

pub there-smaller-then-is_put_last : goal.there-smaller-then-is_put_last
there-smaller-then-is_put_last c =
    let onward = record_onward c.in-Ok.ensures.ok in
    omega (arith, onward.further, onward.inside, ap length onward.same)

pub there-preserved-then-is_put_last : goal.there-preserved-then-is_put_last
there-preserved-then-is_put_last c =
    let takes = c.in-Ok.ensures.ok in (
      λ half others.
          c.there.invariant.0 half
          (comes_last c.there.more c.octet_at-octet.result c.in-Ok.record c.there.decoder c.read_record.new.decoder c.there.half half
          (c.octet_at-octet.ensures, takes) (sym c.is_put_last.ensures ∙ c.if-is_put_last.true) others),
      (record_onward takes).inside,
    )

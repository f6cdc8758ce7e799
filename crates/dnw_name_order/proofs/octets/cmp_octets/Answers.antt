use Rattle.std.proofs.Common.{length, sym, ◌∙◌, arith}
use Rattle.std.specs.Ordering.{nat_cmp}
use Rattle.std.proofs.lemmas.Cmp.{ranked}
use Rattle.dnw_name_form.proofs.LabelOrders.{slice_cmp_ended}
use Rattle.dnw_name_order.proofs.OctetNumbers.{eights_differ, eights_same}
use Rattle.dnw_name_order.proofs.octets.cmp_octets.Goals as goal

pub returns-then-own-other : goal.returns-then-own-other
returns-then-own-other c =
    c.cmp.ensures
    ∙ eights_differ c.args.left.now c.args.right.now (λ k. omega (arith, c.type_inv.left k)) (λ k. omega (arith, c.type_inv.right k)) c.eights.end (omega arith) (omega arith) _ _ c.eight_at-own.ensures c.eight_at-other.ensures c.if-own-other.true
    ∙ sym c.eights.invariant.left

pub eights-preserved : goal.eights-preserved
eights-preserved c = record {
  few = omega arith;
  left =
      c.eights.invariant.left
      ∙ eights_same c.args.left.now c.args.right.now (λ k. omega (arith, c.type_inv.left k)) (λ k. omega (arith, c.type_inv.right k)) c.eights.end (omega arith) (omega arith) _ _ c.eight_at-own.ensures c.eight_at-other.ensures c.if-own-other.false;
}

pub returns : goal.returns
returns c =
    let lengths = ranked (length c.args.left.now) (length c.args.right.now) c.cmp_lengths.result c.cmp_lengths.ensures in
    sym (c.loop-i.invariant ∙ slice_cmp_ended nat_cmp 0 c.loop-i.i c.args.left.now c.args.right.now c.cmp_lengths.result lengths (omega arith))

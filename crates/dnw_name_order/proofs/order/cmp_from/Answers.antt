use Rattle.std.proofs.Common.{length, sym, ◌∙◌, arith}
use Rattle.std.proofs.lemmas.Cmp.{ranked}
use Rattle.dnw_name_form.proofs.LabelOrders.{slice_cmp_ended}
use Rattle.dnw_name_order.proofs.Comparing.{slice_cmp_passed}
use Rattle.dnw_name_order.proofs.order.cmp_from.Goals as goal

pub loop-i-init : goal.loop-i-init
loop-i-init g c = slice_cmp_passed g.F.LabelCmp.order c.requires.reflexive c.args.start c.args.left.now c.args.right.now c.requires.same

pub returns : goal.returns
returns g c =
    let lengths = ranked (length c.args.left.now) (length c.args.right.now) c.cmp_lengths.result c.cmp_lengths.ensures in
    sym (c.loop-i.invariant ∙ slice_cmp_ended g.F.LabelCmp.order 0 c.loop-i.i c.args.left.now c.args.right.now c.cmp_lengths.result lengths (omega arith))

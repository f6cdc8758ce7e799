use Rattle.std.proofs.Common.{length, sym, ◌∙◌, arith}
use Rattle.std.proofs.lemmas.Cmp.{ranked}
use Rattle.dnw_name_form.proofs.LabelOrders.{slice_cmp_ended}
use Rattle.dnw_name_form.proofs.label.cmp_bytes.Goals as goal

pub returns : goal.returns
returns g c =
    let lengths = ranked (length c.args.left.now) (length c.args.right.now) c.cmp.result c.cmp.ensures in
    sym (c.loop-i.invariant ∙ slice_cmp_ended g.F.LabelCmp.order 0 c.loop-i.i c.args.left.now c.args.right.now c.cmp.result lengths (omega arith))

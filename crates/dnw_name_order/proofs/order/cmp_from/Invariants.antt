use Rattle.std.proofs.Common.{◌≡◌, drop}
use Rattle.std.specs.Cmp.Lexicographic.{slice_cmp}
use Rattle.dnw_name_order.proofs.order.cmp_from.Given as goal

abbrev pub invariant-loop-i : goal.invariant-loop-i
invariant-loop-i g l = slice_cmp g.F.LabelCmp.order l.left l.right ≡ slice_cmp g.F.LabelCmp.order (drop l.i l.left) (drop l.i l.right)

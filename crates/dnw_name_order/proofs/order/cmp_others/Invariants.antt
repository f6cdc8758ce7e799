use Rattle.std.proofs.Common.{◌≡◌, length}
use Rattle.std.specs.Cmp.Lexicographic.{slice_cmp}
use Rattle.dnw_name_order.proofs.order.cmp_others.Given as goal

abbrev pub invariant-labels : goal.invariant-labels
invariant-labels g l =
    slice_cmp (slice_cmp g.F.LabelCmp.order) l.lefts l.rights ≡ slice_cmp (slice_cmp g.F.LabelCmp.order) l.fn.lefts l.fn.rights

abbrev pub decreases-labels : goal.decreases-labels
decreases-labels g l = length l.lefts

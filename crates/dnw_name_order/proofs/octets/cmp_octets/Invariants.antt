use Rattle.std.proofs.Common.{◌≡◌, ◌-◌, ◌≤◌, drop}
use Rattle.std.specs.Cmp.Lexicographic.{slice_cmp}
use Rattle.std.specs.Ordering.{nat_cmp}
use Rattle.dnw_name_order.proofs.octets.cmp_octets.Given as goal

-- what is left decides
abbrev pub invariant-eights : goal.invariant-eights
invariant-eights l = record {
  few : l.end ≤ l.both;
  left : slice_cmp nat_cmp l.left l.right ≡ slice_cmp nat_cmp (drop l.end l.left) (drop l.end l.right);
}

abbrev pub decreases-eights : goal.decreases-eights
decreases-eights l = l.both - l.end

abbrev pub invariant-loop-i : goal.invariant-loop-i
invariant-loop-i l = slice_cmp nat_cmp l.left l.right ≡ slice_cmp nat_cmp (drop l.i l.left) (drop l.i l.right)

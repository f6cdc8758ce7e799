use Rattle.std.proofs.Common.{◌≡◌, ℕ, ◌-◌, ◌<◌, ◌≤◌, length, get_or}
use Rattle.dnw_name_order.proofs.order.same_fours.Given as goal

-- those before are the same
abbrev pub invariant-fours : goal.invariant-fours
invariant-fours l = record {
  within : l.end ≤ length l.left;
  same : (k : ℕ) → k < l.end → get_or l.left k 0 ≡ get_or l.right k 0;
}

abbrev pub decreases-fours : goal.decreases-fours
decreases-fours l = length l.left - l.end

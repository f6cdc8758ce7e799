use Rattle.std.proofs.Common.{◌-◌, ◌≤◌, ◌≡◌, ◌⊎◌, length}
use Rattle.dnw_c_zone.proofs.tokens.take_next.Given as goal

-- a part that is not empty, unless nothing is left
abbrev pub invariant-parts : goal.invariant-parts
invariant-parts l = record {
  within : l.size ≤ length l.left;
  some : (1 ≤ l.size) ⊎ (l.size ≡ length l.left);
}

abbrev pub decreases-parts : goal.decreases-parts
decreases-parts l = length l.left - l.size

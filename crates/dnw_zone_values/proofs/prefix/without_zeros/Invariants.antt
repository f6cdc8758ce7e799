use Rattle.std.proofs.Common.{◌≡◌, ◌≤◌, length}
use Rattle.dnw_zone_values.specs.Prefixes.{without_zeros}
use Rattle.dnw_zone_values.proofs.prefix.without_zeros.Given as goal

abbrev pub invariant-loop-last : goal.invariant-loop-last
invariant-loop-last l = (length l.left ≤ length l.octets) × (without_zeros l.left ≡ without_zeros l.octets)

abbrev pub decreases-loop-last : goal.decreases-loop-last
decreases-loop-last l = length l.left

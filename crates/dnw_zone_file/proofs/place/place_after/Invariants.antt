use Rattle.std.proofs.Common.{◌≡◌, ◌≤◌, ◌+◌, length}
use Rattle.dnw_zone_file.specs.Places.{place_from}
use Rattle.dnw_zone_file.proofs.place.place_after.Given as goal

-- what is left, from here, leads where all leads
abbrev pub invariant-loop-rest : goal.invariant-loop-rest
invariant-loop-rest l = record {
  place : place_from (record { line = l.line; column = 0 }) l.left ≡ place_from (record { line = 0; column = 0 }) l.fn.front;
  lines : l.line + length l.left ≤ length l.fn.front;
}

abbrev pub decreases-loop-rest : goal.decreases-loop-rest
decreases-loop-rest l = length l.left

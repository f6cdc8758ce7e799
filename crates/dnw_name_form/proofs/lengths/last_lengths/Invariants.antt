use Rattle.std.proofs.Common.{◌<◌, ◌≤◌, length}
use Rattle.dnw_name_form.proofs.LastLengths.{Passed}
use Rattle.dnw_name_form.proofs.lengths.last_lengths.Given as goal

abbrev pub invariant-labels : goal.invariant-labels
invariant-labels l = record {
  passed : Passed l.fn.labels l.rest l.lengths;
  some : length l.rest < length l.fn.labels → 1 ≤ l.lengths;
}

abbrev pub decreases-labels : goal.decreases-labels
decreases-labels l = length l.rest

use Rattle.std.proofs.Common.{◌≡◌, length}
use Rattle.ans_transfer.specs.Places.{passed}
use Rattle.ans_transfer.proofs.passing.passed.Given as goal

abbrev pub invariant-records : goal.invariant-records
invariant-records l = passed l.request l.at l.records ≡ passed l.request l.fn.place l.fn.records

abbrev pub decreases-records : goal.decreases-records
decreases-records l = length l.records

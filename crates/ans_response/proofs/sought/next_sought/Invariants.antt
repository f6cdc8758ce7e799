use Rattle.std.proofs.Common.{◌≡◌, length}
use Rattle.ans_response.specs.Seen.{sought_in}
use Rattle.ans_response.proofs.sought.next_sought.Given as goal

abbrev pub invariant-records : goal.invariant-records
invariant-records l = sought_in l.asked l.name.labels l.sought l.records ≡ sought_in l.asked l.name.labels l.sought l.fn.records

abbrev pub decreases-records : goal.decreases-records
decreases-records l = length l.records

use Rattle.std.proofs.Common.{◌+◌, length}
use Rattle.dnw_base.specs.Names.{wire}
use Rattle.dnw_name_read.specs.Inside.Found.{labels_at, CopiesRuns}
use Rattle.dnw_name_read.proofs.copy.copy_runs.Given as goal

abbrev pub invariant-elements : goal.invariant-elements
invariant-elements l = CopiesRuns l.message l.start l.run l.position l.fn.out l.out l.filled

-- a label leaves fewer octets to be written, and a pointer leads before the run
abbrev pub decreases-elements : goal.decreases-elements
decreases-elements l = l.run + length (wire (labels_at l.message l.position))

use Rattle.std.proofs.Common.{◌+◌, length}
use Rattle.dnw_write_suffixes.proofs.Matching.{GoesAlong}
use Rattle.dnw_write_suffixes.proofs.usable.has_labels.Given as goal

abbrev pub invariant-elements : goal.invariant-elements
invariant-elements l = GoesAlong l.message l.start l.position l.segment l.limit l.fn.labels l.labels

-- a label is taken, or a pointer leads to before the segment
abbrev pub decreases-elements : goal.decreases-elements
decreases-elements l = l.segment + length l.labels

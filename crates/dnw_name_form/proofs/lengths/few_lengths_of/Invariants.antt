use Rattle.std.proofs.Common.{length}
use Rattle.dnw_name_form.proofs.LastLengths.{Passed}
use Rattle.dnw_name_form.proofs.lengths.few_lengths_of.Given as goal

abbrev pub invariant-labels : goal.invariant-labels
invariant-labels l = Passed l.fn.labels l.rest l.lengths

abbrev pub decreases-labels : goal.decreases-labels
decreases-labels l = length l.rest

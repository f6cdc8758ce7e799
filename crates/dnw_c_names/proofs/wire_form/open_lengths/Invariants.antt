use Rattle.std.proofs.Common.{◌-◌, length}
use Rattle.dnw_c_names.proofs.Walks.{Walked}
use Rattle.dnw_c_names.proofs.wire_form.open_lengths.Given as goal

abbrev pub invariant-labels : goal.invariant-labels
invariant-labels l = Walked l.labels l.at l.lengths

abbrev pub decreases-labels : goal.decreases-labels
decreases-labels l = length l.labels - l.at

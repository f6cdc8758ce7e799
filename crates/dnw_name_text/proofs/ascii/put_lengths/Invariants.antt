use Rattle.std.proofs.Common.{◌-◌, length}
use Rattle.dnw_name_text.proofs.PlainText.{Put}
use Rattle.dnw_name_text.proofs.ascii.put_lengths.Given as goal

abbrev pub invariant-labels : goal.invariant-labels
invariant-labels l = Put l.text l.wire l.start

abbrev pub decreases-labels : goal.decreases-labels
decreases-labels l = length l.text - l.start

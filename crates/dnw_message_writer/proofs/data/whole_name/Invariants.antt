use Rattle.std.proofs.Common.{◌-◌}
use Rattle.dnw_message_writer.proofs.WholeNames.{Passing}
use Rattle.dnw_message_writer.proofs.data.whole_name.Given as goal

abbrev pub invariant-labels : goal.invariant-labels
invariant-labels l = Passing l.octets l.at

abbrev pub decreases-labels : goal.decreases-labels
decreases-labels l = 255 - l.at

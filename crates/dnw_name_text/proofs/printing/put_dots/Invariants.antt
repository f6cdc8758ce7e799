use Rattle.std.proofs.Common.{◌-◌, drop, length}
use Rattle.dnw_base.specs.Names.{wire}
use Rattle.dnw_name_text.proofs.PlainNames.{Dotted}
use Rattle.dnw_name_text.proofs.printing.put_dots.Given as goal

abbrev pub invariant-labels : goal.invariant-labels
invariant-labels l = Dotted l.initial.labels l.labels (drop (length (wire l.initial.labels) - 1) l.fn.out) l.out l.end

abbrev pub decreases-labels : goal.decreases-labels
decreases-labels l = length l.labels

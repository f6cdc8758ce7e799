use Rattle.dnw_name_text.proofs.PlainNames.{Dotted-label}
use Rattle.dnw_name_text.proofs.printing.put_dots.Goals as goal

pub labels-preserved : goal.labels-preserved
labels-preserved c = Dotted-label (rw c.in-Some.ensures.steps at c.labels.invariant)

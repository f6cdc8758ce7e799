use Rattle.std.proofs.Common.{rules}
use Rattle.uses.proofs.LabelsLeft.{left_after}
use Rattle.uses.proofs.conversions.names.has_label.Goals as goal

-- src/conversions/names.rt:89:5
pub loop-label-preserved : goal.loop-label-preserved
loop-label-preserved c = left_after c.in-Some.ensures.steps (search rules) c.loop-label.invariant

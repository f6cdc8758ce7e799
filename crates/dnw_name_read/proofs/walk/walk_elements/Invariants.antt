use Rattle.std.proofs.Common.{◌+◌, ◌-◌}
use Rattle.dnw_name_read.specs.Inside.Walking.{WalksOn}
use Rattle.dnw_name_read.proofs.walk.walk_elements.Given as goal

abbrev pub invariant-elements : goal.invariant-elements
invariant-elements l =
    WalksOn l.message l.start l.first l.position l.segment l.limit l.end l.size l.steps.pointers l.steps.labels

abbrev pub decreases-elements : goal.decreases-elements
decreases-elements l = l.segment + (255 - l.size)

use Rattle.std.proofs.Common.{◌↔◌, Contains}
use Rattle.uses.proofs.conversions.names.has_label.Given as goal

-- The labels that are left have the octets exactly if those of the name do.
abbrev pub invariant-loop-label : goal.invariant-loop-label
invariant-loop-label l = Contains l.label-iterator l.octets ↔ Contains l.name.labels l.octets

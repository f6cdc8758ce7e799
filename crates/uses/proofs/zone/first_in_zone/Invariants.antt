use Rattle.std.proofs.Common.{take}
use Rattle.std.specs.List.{AllByRecursion}
use Rattle.dns_names_wire.specs.Words.{IsZoneOf}
use Rattle.uses.proofs.zone.first_in_zone.Given as goal

-- None of the names so far is in the zone.
abbrev pub invariant-loop-index : goal.invariant-loop-index
invariant-loop-index l = AllByRecursion (λ name. ¬ (IsZoneOf l.zone.labels name.labels)) (take l.index l.names)

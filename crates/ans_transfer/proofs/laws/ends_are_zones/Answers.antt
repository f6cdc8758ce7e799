use Rattle.ans_transfer.proofs.Steps.{ends_are_zones}
use Rattle.ans_transfer.proofs.Zones.{zones_end}
use Rattle.ans_transfer.proofs.laws.ends_are_zones.Goals as goal

pub returns-clause-zones : goal.returns-clause-zones
returns-clause-zones c = ends_are_zones

pub returns-clause-end : goal.returns-clause-end
returns-clause-end c = zones_end

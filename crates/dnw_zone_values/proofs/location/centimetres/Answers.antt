use Rattle.dnw_zone_values.proofs.LocationSteps.{ten_times}
use Rattle.std.proofs.Common.{ap, ◌*◌, ◌/◌, ◌∙◌}
use Rattle.dnw_zone_values.proofs.location.centimetres.Goals as goal

pub zeros-preserved : goal.zeros-preserved
zeros-preserved c = ap (λ n. n * 10) c.zeros.invariant ∙ ten_times (c.args.octet / 16) c.zeros.counter

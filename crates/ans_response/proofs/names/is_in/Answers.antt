use Rattle.ans_response.proofs.Zones.{in_by_test}
use Rattle.ans_response.proofs.names.is_in.Goals as goal

pub returns : goal.returns
returns c = in_by_test c.zone_of.result c.args.zone.now.labels c.args.name.now c.zone_of.ensures

use Rattle.std.proofs.Common.{◌≡◌}
use Rattle.dnw_name_zones.specs.LowerNames.{lowered}
use Rattle.dnw_name_zones.proofs.Lowered.{lowered_is}
use Rattle.dnw_name_zones.proofs.lower_name.LowerName.new.Goals as goal

pub invariant_of-result : goal.invariant_of-result
invariant_of-result c =
    let ok = c.in_ok-to_lowercase.ensures in
    let same : c.in_ok-to_lowercase.field-0 ≡ lowered c.args.name.now = cc in
    lowered_is c.in_ok-to_lowercase.field-0 c.args.name.now same

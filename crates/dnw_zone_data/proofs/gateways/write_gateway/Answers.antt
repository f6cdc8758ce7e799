use Rattle.std.proofs.Common.{refl}
use Rattle.dnw_zone_data.proofs.GatewayWords.{no_gateway, tail_is}
use Rattle.dnw_zone_data.proofs.gateways.write_gateway.Goals as goal

pub returns-in_default-2 : goal.returns-in_default-2
returns-in_default-2 c =
    let none = rw c.in_default-2.is at c.in_ok-shown.ensures in (no_gateway c.args.octets.now _ (tail_is 2 c.args.octets.now) none, refl)

use Rattle.std.proofs.Common.{refl}
use Rattle.dnw_zone_data.proofs.GatewayWords.{no_relay, tail_is}
use Rattle.dnw_zone_data.proofs.gateways.write_relay.Goals as goal

pub returns-in_default-2 : goal.returns-in_default-2
returns-in_default-2 c =
    let none = rw (c.in_default-2.is, c.relay_type_of-relay_type.ensures) at c.in_ok-shown.ensures in (no_relay c.args.octets.now _ (tail_is 1 c.args.octets.now) none, refl)

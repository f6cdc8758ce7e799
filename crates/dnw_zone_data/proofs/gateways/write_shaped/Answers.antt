use Rattle.dnw_zone_data.proofs.gateways.write_shaped.Goals as goal

pub returns-in-Gateway : goal.returns-in-Gateway
returns-in-Gateway c = rw c.in-Gateway.is c.write_gateway.ensures

pub returns-in-Relay : goal.returns-in-Relay
returns-in-Relay c = rw c.in-Relay.is c.write_relay.ensures

pub returns-in-HostIdentity : goal.returns-in-HostIdentity
returns-in-HostIdentity c = rw c.in-HostIdentity.is c.write_identity.ensures

pub returns-in-Location : goal.returns-in-Location
returns-in-Location c = rw c.in-Location.is c.write_location.ensures

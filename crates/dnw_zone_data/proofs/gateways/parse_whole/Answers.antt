use Rattle.dnw_zone_data.proofs.gateways.parse_whole.Goals as goal

pub returns-in-Location : goal.returns-in-Location
returns-in-Location c = rw c.in-Location.is c.parse_location.ensures

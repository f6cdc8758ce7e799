use Rattle.dnw_zone_data.proofs.gateways.push_ipv4.Goals as goal

pub returns-in_default : goal.returns-in_default
returns-in_default c = λ own is. c.in_default.ensures is.0 is.1

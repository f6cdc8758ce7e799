use Rattle.dnw_zone_values.proofs.lists.push_item.Goals as goal

pub returns-in-Keys : goal.returns-in-Keys
returns-in-Keys c = rw c.in-Keys.is c.push_key.ensures

pub returns-in-Ipv4 : goal.returns-in-Ipv4
returns-in-Ipv4 c = rw c.in-Ipv4.is c.push_ipv4.ensures

pub returns-in-Ipv6 : goal.returns-in-Ipv6
returns-in-Ipv6 c = rw c.in-Ipv6.is c.push_ipv6.ensures

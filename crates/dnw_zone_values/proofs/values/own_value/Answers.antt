use Rattle.dnw_zone_values.proofs.values.own_value.Goals as goal

pub returns-in-Mandatory-clause-ok : goal.returns-in-Mandatory-clause-ok
returns-in-Mandatory-clause-ok c = rw c.in-Mandatory.is c.mandatory_of.ensures

pub returns-in-Protocols-clause-ok : goal.returns-in-Protocols-clause-ok
returns-in-Protocols-clause-ok c = rw c.in-Protocols.is c.parse_list.ensures

pub returns-in-Port-clause-ok : goal.returns-in-Port-clause-ok
returns-in-Port-clause-ok c = rw c.in-Port.is c.port_of.ensures

pub returns-in-Ipv4-clause-ok : goal.returns-in-Ipv4-clause-ok
returns-in-Ipv4-clause-ok c = rw c.in-Ipv4.is c.parse_list-in-Ipv4.ensures

pub returns-in-Ipv6-clause-ok : goal.returns-in-Ipv6-clause-ok
returns-in-Ipv6-clause-ok c = rw c.in-Ipv6.is c.parse_list-in-Ipv6.ensures

pub returns-in-Template-clause-ok : goal.returns-in-Template-clause-ok
returns-in-Template-clause-ok c = rw c.in-Template.is c.template_of.ensures

use Rattle.dnw_zone_data.proofs.parsing.parse_all.Goals as goal

pub returns-in-Octets : goal.returns-in-Octets
returns-in-Octets c = rw c.in-Octets.is c.parse_all_octets.ensures

pub returns-in-Shaped : goal.returns-in-Shaped
returns-in-Shaped c = rw c.in-Shaped.is c.parse_whole.ensures

pub returns-in-List : goal.returns-in-List
returns-in-List c = rw c.in-List.is c.parse_list.ensures

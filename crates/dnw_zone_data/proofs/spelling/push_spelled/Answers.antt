use Rattle.dnw_zone_data.proofs.spelling.push_spelled.Goals as goal

pub returns-in-Hex-clause-is : goal.returns-in-Hex-clause-is
returns-in-Hex-clause-is c = rw c.in-Hex.is c.push_salt.ensures.is

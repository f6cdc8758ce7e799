use Rattle.dnw_zone_values.proofs.OneLocation.{one_location}
use Rattle.dnw_zone_values.proofs.LocationsBack.{back}
use Rattle.dnw_zone_values.proofs.location_laws.locations_come_back.Goals as goal

pub returns-clause-back : goal.returns-clause-back
returns-clause-back c = back

pub returns-clause-one : goal.returns-clause-one
returns-clause-one c = one_location

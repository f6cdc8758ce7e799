use Rattle.std.proofs.Common.{refl}
use Rattle.dnw_data.specs.Values.{octets}
use Rattle.dnw_zone_data.proofs.locators.parse_nsap.Goals as goal

pub returns-in-Ok : goal.returns-in-Ok
returns-in-Ok c = let (own, is, e) = c.in-Ok.ensures in (octets own, (own, is, refl), e)

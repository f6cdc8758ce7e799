use Rattle.dnw_zone_values.proofs.LocationSteps.{part_too_great}
use Rattle.dnw_zone_values.proofs.location.scaled.Goals as goal

pub returns-in_default-digits_of : goal.returns-in_default-digits_of
returns-in_default-digits_of c = λ n few is. part_too_great _ _ _ n c.in_default-digits_of.ensures few is

use Rattle.std.proofs.Common.{◌≡◌, ◌<◌, ◌+◌}
use Rattle.dnw_zone_values.specs.Locations.{precision}
use Rattle.dnw_zone_values.proofs.location.precision.Given as goal

abbrev pub invariant-digits : goal.invariant-digits
invariant-digits l = (l.mantissa < 10000000000) × (precision l.mantissa + l.exponent ≡ precision l.centimetres)

abbrev pub decreases-digits : goal.decreases-digits
decreases-digits l = l.mantissa

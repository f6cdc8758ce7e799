use Rattle.std.proofs.Common.{◌≡◌, length}
use Rattle.dnw_zone_checks.specs.HostNames.{ends_as_host, has_host_octets}
use Rattle.dnw_zone_checks.proofs.host.has_host_octets.Given as goal

abbrev pub invariant-octets : goal.invariant-octets
invariant-octets l = has_host_octets l.octets ≡ ends_as_host l.last l.left

abbrev pub decreases-octets : goal.decreases-octets
decreases-octets l = length l.left

use Rattle.std.proofs.Common.{◌≡◌, length}
use Rattle.dnw_zone_checks.specs.HostNames.{are_host_labels}
use Rattle.dnw_zone_checks.proofs.host.are_host_labels.Given as goal

abbrev pub invariant-labels : goal.invariant-labels
invariant-labels l = are_host_labels l.fn.labels ≡ are_host_labels l.rest

abbrev pub decreases-labels : goal.decreases-labels
decreases-labels l = length l.rest

use Rattle.std.proofs.Common.{◌≡◌, length}
use Rattle.dnw_zone_checks.specs.Checks.{first_upward, upward}
use Rattle.dnw_zone_checks.specs.Inside.Seeking.{is_sought}
use Rattle.dnw_zone_checks.proofs.zone.Zone.first_upward.Given as goal

abbrev pub invariant-names : goal.invariant-names
invariant-names l =
    first_upward l.self.records.now (upward l.least l.fn.name) (is_sought l.sought) ≡ first_upward l.self.records.now (upward l.least l.name) (is_sought l.sought)

abbrev pub decreases-names : goal.decreases-names
decreases-names l = length l.name

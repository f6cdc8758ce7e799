use Rattle.std.proofs.Common.{◌≡◌, length}
use Rattle.dnw_zone_checks.specs.Checks.{first_of_wildcard}
use Rattle.dnw_zone_checks.specs.Inside.Seeking.{is_sought}
use Rattle.dnw_zone_checks.proofs.zone.Zone.first_of_wildcard.Given as goal

abbrev pub invariant-names : goal.invariant-names
invariant-names l = record {
  below : l.below ≡ l.rest;
  same : first_of_wildcard l.self.records.now l.name (is_sought l.sought) ≡ first_of_wildcard l.self.records.now l.rest (is_sought l.sought);
}

abbrev pub decreases-names : goal.decreases-names
decreases-names l = length l.rest

use Rattle.std.proofs.Common.{sym, ◌∙◌, arith}
use Rattle.dnw_zone_checks.specs.Inside.Seeking.{is_sought}
use Rattle.dnw_zone_checks.proofs.Upward.{upward_found, upward_none}
use Rattle.dnw_zone_checks.proofs.zone.Zone.first_upward.Goals as goal

pub returns-in-Some : goal.returns-in-Some
returns-in-Some c =
    sym (c.names.invariant ∙ upward_found c.args.self.now.records.now c.args.least c.names.name (is_sought c.args.sought) c.in-Some.number (omega arith) (sym c.in-Some.ensures))

pub returns : goal.returns
returns c = sym (c.names.invariant ∙ upward_none c.args.self.now.records.now c.args.least c.names.name (is_sought c.args.sought) (omega arith))

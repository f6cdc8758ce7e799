use Rattle.std.proofs.Common.{◌++◌, append_assoc, List, refl, ap, ◌∙◌}
use Rattle.dnw_zone_checks.specs.Findings.{listed}
use Rattle.dnw_zone_checks.specs.declared.finding.Finding.{Finding}
use Rattle.dnw_zone_checks.proofs.checks.check_apex.Goals as goal

pub returns : goal.returns
returns c =
    c.in_ok-add-2.ensures ∙ ap (λ (x : List Finding). x ++ listed c.apex_lack-2.result) c.in_ok-add.ensures
    ∙ append_assoc c.args.found.now.items (listed c.apex_lack.result) (listed c.apex_lack-2.result)
    ∙ ap (λ (x : List Finding). c.args.found.now.items ++ x)
    (rw (c.apex_lack.ensures, c.apex_lack-2.ensures, c.first_at-soa.ensures, c.first_at-ns.ensures, c.wire_labels-apex.ensures.labels) refl)

use Rattle.std.proofs.Common.{ℕ, List, ◌++◌, append_assoc, ap, sym, ◌∙◌, inr, refl}
use Rattle.dnw_zone_checks.specs.Checks.{is_in, own_findings}
use Rattle.dnw_zone_checks.specs.declared.finding.Finding.{Finding}
use Rattle.dnw_zone_checks.proofs.checks.check_record.Goals as goal

pub returns : goal.returns
returns c =
    let (more, these, added) = c.in_ok-check_server.ensures in
    let zone = c.args.zone.now.apex.now.labels in
    let own = own_findings zone c.args.zone.now.records.now c.args.number c.args.record.now in (
      own ++ more,
      inr (
        ap (λ (z : List (List ℕ)). is_in z c.args.record.now.owner) (sym c.wire_labels.ensures.labels)
            ∙ ap (is_in c.wire_labels.result) (sym (c.wire_labels-owner.ensures ∙ c.owner.ensures)) ∙ sym c.is_in.ensures ∙ c.if-not-is_in.false,
        more,
        these,
        refl,
      ),
      added ∙ ap (λ (x : List Finding). x ++ more) c.in_ok-check_owner.ensures ∙ append_assoc c.args.found.now.items own more,
    )

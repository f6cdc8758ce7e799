use Rattle.std.proofs.Common.{ap, ◌∙◌}
use Rattle.std.proofs.lemmas.List.{get_or_default}
use Rattle.dnw_record.specs.Records.{RecordValue}
use Rattle.dnw_zone_checks.specs.Checks.{is_in}
use Rattle.dnw_zone_checks.proofs.zone.Zone.is_owner_in.Goals as goal

pub returns : goal.returns
returns c = λ d.
    c.is_in.ensures ∙ ap (is_in c.args.name.now) (c.wire_labels.ensures ∙ c.owner.ensures)
    ∙ ap (λ (r : RecordValue). is_in c.args.name.now r.owner)
    (get_or_default c.args.self.now.records.now c.args.number c.index-self-number.result d c.requires)

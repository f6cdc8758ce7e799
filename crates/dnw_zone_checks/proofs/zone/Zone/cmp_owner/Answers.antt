use Rattle.std.proofs.Common.{ap, ◌∙◌}
use Rattle.std.proofs.lemmas.List.{get_or_default}
use Rattle.dnw_name_order.specs.Order.{labels_cmp}
use Rattle.dnw_record.specs.Records.{RecordValue}
use Rattle.dnw_zone_checks.proofs.zone.Zone.cmp_owner.Goals as goal

pub returns : goal.returns
returns c = λ d.
    c.cmp_owner.ensures ∙ ap (λ (r : RecordValue). labels_cmp r.owner c.args.name.now)
    (get_or_default c.args.self.now.records.now c.args.number c.index-self-number.result d c.requires)

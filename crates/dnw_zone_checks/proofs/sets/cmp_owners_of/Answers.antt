use Rattle.std.proofs.Common.{ap, ◌∙◌, slice_index_or}
use Rattle.std.proofs.lemmas.List.{get_or_default}
use Rattle.dnw_name_order.specs.Order.{labels_cmp}
use Rattle.dnw_record.specs.Records.{RecordValue}
use Rattle.dnw_zone_checks.proofs.sets.cmp_owners_of.Goals as goal

pub returns : goal.returns
returns c = λ d.
    c.cmp_owners.ensures ∙ ap (λ (r : RecordValue). labels_cmp r.owner c.index-records-other.result.owner)
    (c.index-records-number.is ∙ get_or_default c.args.records.now c.args.number c.index-records-number.result d c.requires.number)
    ∙ ap (λ (r : RecordValue). labels_cmp (slice_index_or c.args.records.now c.args.number d).owner r.owner)
    (c.index-records-other.is ∙ get_or_default c.args.records.now c.args.other c.index-records-other.result d c.requires.other)

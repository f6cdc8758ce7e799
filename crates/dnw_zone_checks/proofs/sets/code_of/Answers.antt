use Rattle.std.proofs.Common.{ap, ◌∙◌}
use Rattle.std.proofs.lemmas.List.{get_or_default}
use Rattle.dnw_base.specs.RecordTypes.{type_code}
use Rattle.dnw_record.specs.Records.{RecordValue}
use Rattle.dnw_zone_checks.proofs.sets.code_of.Goals as goal

pub returns-clause-is : goal.returns-clause-is
returns-clause-is c = λ d.
    c.from.ensures ∙ c.from-code.ensures ∙ ap type_code c.record_type.ensures
    ∙ ap (λ (r : RecordValue). type_code r.record_type) (c.index-records-number.is ∙ get_or_default c.args.records.now c.args.number c.index-records-number.result d c.requires)

use Rattle.dnw_zone_values.proofs.Steps.{value_after}
use Rattle.dnw_zone_values.proofs.word.parts.Goals as goal

pub returns-in-Some-clause-value : goal.returns-in-Some-clause-value
returns-in-Some-clause-value c =
    value_after c.args.word.now c.in-Some.value.now _ _ c.key_len.result c.key_len.ensures.is c.split_at.ensures.back c.in-Some.ensures.cases.0

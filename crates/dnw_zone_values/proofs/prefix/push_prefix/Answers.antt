use Rattle.dnw_zone_values.proofs.PrefixesBack.{marked_call}
use Rattle.dnw_zone_values.proofs.prefix.push_prefix.Goals as goal

pub returns-clause-ok : goal.returns-clause-ok
returns-clause-ok c =
    marked_call c.push_family.result c.split_negation-negates.result.0 c.args.text.now c.split_negation-negates.result.1.now _ _ c.split_negation-negates.ensures.is c.split_negation-negates.ensures.rest
    c.push_family.ensures.ok

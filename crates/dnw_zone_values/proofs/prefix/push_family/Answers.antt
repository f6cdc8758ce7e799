use Rattle.dnw_zone_values.proofs.PrefixesBack.{family_call, no_family_text}
use Rattle.dnw_zone_values.proofs.prefix.push_family.Goals as goal

pub returns-clause-ok : goal.returns-clause-ok
returns-clause-ok c =
    family_call c.push_of.result c.args.negates c.args.text.now c.split_first.result.1.now c.split_first.result.0.now c.split_first-2.result.0.now c.split_first-2.result.1.now _ _ c.in-Some.family
    c.split_first.ensures.front c.split_first.ensures.back c.split_first-2.ensures.front c.split_first-2.ensures.back c.in-Some.ensures c.push_of.ensures.ok

pub returns-in_default-clause-ok : goal.returns-in_default-clause-ok
returns-in_default-clause-ok c = λ own. no_family_text c.args.negates c.args.text.now c.split_first.result.0.now own c.split_first.ensures.front c.in_default.ensures

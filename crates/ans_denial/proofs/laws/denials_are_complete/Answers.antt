use Rattle.ans_denial.proofs.Complete.{chains_enough, denials_complete}
use Rattle.ans_denial.proofs.laws.denials_are_complete.Goals as goal

pub returns-clause-chains : goal.returns-clause-chains
returns-clause-chains c = chains_enough c.keys_compare.ensures.labels c.zones_begin.ensures

pub returns-clause-denials : goal.returns-clause-denials
returns-clause-denials c = denials_complete c.keys_compare.ensures.labels c.zones_begin.ensures

use Rattle.ans_denial.proofs.Sound.{denials_sound, enclosers_sound}
use Rattle.ans_denial.proofs.laws.denials_are_sound.Goals as goal

pub returns-clause-denials : goal.returns-clause-denials
returns-clause-denials c = denials_sound c.keys_compare.ensures.labels c.zones_begin.ensures

pub returns-clause-enclosers : goal.returns-clause-enclosers
returns-clause-enclosers c = enclosers_sound c.keys_compare.ensures.labels c.zones_begin.ensures

use Rattle.ans_denial.proofs.Hashed.{expansions_sound, hashed_sound}
use Rattle.ans_denial.proofs.laws.hashed_denials_are_sound.Goals as goal

pub returns-clause-denials : goal.returns-clause-denials
returns-clause-denials c = hashed_sound

pub returns-clause-expansions : goal.returns-clause-expansions
returns-clause-expansions c = expansions_sound

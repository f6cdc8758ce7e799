use Rattle.dnw_write.proofs.NameBack.{names_stay_bounded, names_take_no_more, pointers_save}
use Rattle.dnw_write.proofs.encoder.laws.names_stay_bounded.Goals as goal

pub returns-clause-bounded : goal.returns-clause-bounded
returns-clause-bounded c = names_stay_bounded

pub returns-clause-no_more : goal.returns-clause-no_more
returns-clause-no_more c = names_take_no_more

pub returns-clause-saves : goal.returns-clause-saves
returns-clause-saves c = pointers_save

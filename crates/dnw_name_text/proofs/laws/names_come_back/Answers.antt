use Rattle.dnw_name_text.proofs.NamesBack.{names, full_names}
use Rattle.dnw_name_text.proofs.laws.names_come_back.Goals as goal

pub returns-clause-each : goal.returns-clause-each
returns-clause-each c = names

pub returns-clause-full : goal.returns-clause-full
returns-clause-full c = full_names

use Rattle.dnw_name_arpa.proofs.Prefixes.{names_give}
use Rattle.dnw_name_arpa.proofs.laws.names_give_prefixes.Goals as goal

pub returns : goal.returns
returns c = names_give

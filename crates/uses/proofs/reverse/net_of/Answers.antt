-- A name that is not read gives no prefix.
use Rattle.uses.proofs.ReverseNames.{gives_none}
use Rattle.uses.proofs.reverse.net_of.Goals as goal

pub returns-clause-none : goal.returns-clause-none
returns-clause-none c = gives_none c.names_give_prefixes.ensures c.args.name.now c.parse_arpa_name.result c.ok.result c.ok.ensures.value c.parse_arpa_name.ensures

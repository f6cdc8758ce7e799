use Rattle.dnw_zone_data.proofs.parsing.parse_list.Goals as goal

pub returns-in-Texts : goal.returns-in-Texts
returns-in-Texts c = rw c.in-Texts.is c.parse_texts.ensures

pub returns-in-Types : goal.returns-in-Types
returns-in-Types c = rw c.in-Types.is c.parse_types.ensures

pub returns-in-Params : goal.returns-in-Params
returns-in-Params c = rw c.in-Params.is c.parse_params.ensures

pub returns-in-Names : goal.returns-in-Names
returns-in-Names c = rw c.in-Names.is c.parse_names.ensures

pub returns-in-Prefixes : goal.returns-in-Prefixes
returns-in-Prefixes c = rw c.in-Prefixes.is c.parse_prefixes.ensures

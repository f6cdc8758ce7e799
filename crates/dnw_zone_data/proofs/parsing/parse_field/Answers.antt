use Rattle.dnw_zone_data.proofs.parsing.parse_field.Goals as goal

pub returns-clause-reads : goal.returns-clause-reads
returns-clause-reads c = rw c.extent_of.ensures at c.parse_by.ensures.reads

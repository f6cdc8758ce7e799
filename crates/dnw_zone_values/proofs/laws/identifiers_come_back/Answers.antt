use Rattle.dnw_zone_values.proofs.Identifiers.{tag, hash, pairs}
use Rattle.dnw_zone_values.proofs.laws.identifiers_come_back.Goals as goal

pub returns-clause-tags : goal.returns-clause-tags
returns-clause-tags c = tag

pub returns-clause-hashes : goal.returns-clause-hashes
returns-clause-hashes c = hash

pub returns-clause-pairs : goal.returns-clause-pairs
returns-clause-pairs c = pairs

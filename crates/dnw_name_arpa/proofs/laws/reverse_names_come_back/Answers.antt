use Rattle.dnw_name_arpa.proofs.Back.{prefixes_come_back, texts_come_back, addresses_are_prefixes, addresses_come_back}
use Rattle.dnw_name_arpa.proofs.laws.reverse_names_come_back.Goals as goal

pub returns-clause-prefixes : goal.returns-clause-prefixes
returns-clause-prefixes c = prefixes_come_back

pub returns-clause-texts : goal.returns-clause-texts
returns-clause-texts c = texts_come_back

pub returns-clause-whole : goal.returns-clause-whole
returns-clause-whole c = addresses_are_prefixes

pub returns-clause-addresses : goal.returns-clause-addresses
returns-clause-addresses c = addresses_come_back

use Rattle.dnw_zone_values.proofs.LocatorsBack.{locator_back}
use Rattle.dnw_zone_values.proofs.NsapBack.{nsap_back}
use Rattle.dnw_zone_values.proofs.laws.locators_come_back.Goals as goal

pub returns-clause-locators : goal.returns-clause-locators
returns-clause-locators c = locator_back

pub returns-clause-nsap : goal.returns-clause-nsap
returns-clause-nsap c = nsap_back

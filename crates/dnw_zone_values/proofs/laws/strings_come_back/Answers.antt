use Rattle.dnw_zone_values.proofs.StringText.{string, text}
use Rattle.dnw_zone_values.proofs.laws.strings_come_back.Goals as goal

pub returns-clause-strings : goal.returns-clause-strings
returns-clause-strings c = string

pub returns-clause-texts : goal.returns-clause-texts
returns-clause-texts c = text

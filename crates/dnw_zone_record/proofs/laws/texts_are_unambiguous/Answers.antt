use Rattle.dnw_zone_record.proofs.OneLine.{printed_lines, unambiguous_lines}
use Rattle.dnw_zone_data.proofs.OneText.{printed, unambiguous}
use Rattle.dnw_zone_record.proofs.laws.texts_are_unambiguous.Goals as goal

pub returns-clause-data : goal.returns-clause-data
returns-clause-data c = unambiguous

pub returns-clause-printed : goal.returns-clause-printed
returns-clause-printed c = printed

pub returns-clause-lines : goal.returns-clause-lines
returns-clause-lines c = unambiguous_lines

pub returns-clause-printed_lines : goal.returns-clause-printed_lines
returns-clause-printed_lines c = printed_lines

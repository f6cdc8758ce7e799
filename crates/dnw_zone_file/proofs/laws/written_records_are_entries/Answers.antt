use Rattle.dnw_zone_file.proofs.LinesRead.{lines_are_entries, lines_are_read_back}
use Rattle.dnw_zone_file.proofs.laws.written_records_are_entries.Goals as goal

pub returns-clause-entries : goal.returns-clause-entries
returns-clause-entries c = lines_are_entries

pub returns-clause-back : goal.returns-clause-back
returns-clause-back c = lines_are_read_back

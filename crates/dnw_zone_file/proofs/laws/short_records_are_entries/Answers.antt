use Rattle.dnw_zone_file.proofs.WrittenTexts.{origins, short_lines, short_lines_back, ttls}
use Rattle.dnw_zone_file.proofs.laws.short_records_are_entries.Goals as goal

pub returns-clause-entries : goal.returns-clause-entries
returns-clause-entries c = short_lines

pub returns-clause-back : goal.returns-clause-back
returns-clause-back c = short_lines_back

pub returns-clause-origins : goal.returns-clause-origins
returns-clause-origins c = origins

pub returns-clause-ttls : goal.returns-clause-ttls
returns-clause-ttls c = ttls

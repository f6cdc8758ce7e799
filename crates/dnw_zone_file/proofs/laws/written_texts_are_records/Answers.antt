use Rattle.dnw_zone_file.proofs.WrittenTexts.{nothing_written, origins_added, records_added, ttls_added, whole_texts}
use Rattle.dnw_zone_file.proofs.laws.written_texts_are_records.Goals as goal

pub returns-clause-empty : goal.returns-clause-empty
returns-clause-empty c = nothing_written

pub returns-clause-records : goal.returns-clause-records
returns-clause-records c = records_added

pub returns-clause-origins : goal.returns-clause-origins
returns-clause-origins c = origins_added

pub returns-clause-ttls : goal.returns-clause-ttls
returns-clause-ttls c = ttls_added

pub returns-clause-whole : goal.returns-clause-whole
returns-clause-whole c = whole_texts

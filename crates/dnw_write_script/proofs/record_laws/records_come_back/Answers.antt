use Rattle.dnw_write_script.proofs.Laying.{records_are_read, records_lie}
use Rattle.dnw_write_script.proofs.record_laws.records_come_back.Goals as goal

pub returns-clause-lie : goal.returns-clause-lie
returns-clause-lie c = records_lie

pub returns-clause-read : goal.returns-clause-read
returns-clause-read c = records_are_read

use Rattle.dnw_write_script.proofs.Preceding.{refused_records_undo}
use Rattle.dnw_write_script.proofs.record_laws.refused_records_undo.Goals as goal

pub returns-clause-record : goal.returns-clause-record
returns-clause-record c = refused_records_undo

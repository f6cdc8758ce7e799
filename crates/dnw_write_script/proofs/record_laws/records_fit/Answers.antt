use Rattle.dnw_write_script.proofs.Parts.{records_fit}
use Rattle.dnw_write_script.proofs.record_laws.records_fit.Goals as goal

pub returns : goal.returns
returns c = record { records = records_fit }

use Rattle.dnw_write_script.proofs.Preceding.{counted_precede, data_precede, part_precedes, parts_precede, records_precede}
use Rattle.dnw_write_script.proofs.record_laws.candidates_precede.Goals as goal

pub returns : goal.returns
returns c = record { part = part_precedes; parts = parts_precede; counted = counted_precede; «data» = data_precede; records = records_precede }

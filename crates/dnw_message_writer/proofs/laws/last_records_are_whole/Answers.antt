use Rattle.dnw_message_writer.proofs.LastRecords.{last_records_are_whole}
use Rattle.dnw_message_writer.proofs.laws.last_records_are_whole.Goals as goal

pub returns : goal.returns
returns c = last_records_are_whole

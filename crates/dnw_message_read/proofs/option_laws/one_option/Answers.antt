use Rattle.dnw_message_read.proofs.Names.{one_option}
use Rattle.dnw_message_read.proofs.option_laws.one_option.Goals as goal

pub returns : goal.returns
returns c = one_option c.reads_back.ensures c.one_reading.ensures.one_name

use Rattle.dnw_message_read.proofs.OneMessage.{not_both, one_fault, one_message}
use Rattle.dnw_message_read.proofs.laws.one_message.Goals as goal

pub returns-clause-one_message : goal.returns-clause-one_message
returns-clause-one_message c = one_message

pub returns-clause-not_both : goal.returns-clause-not_both
returns-clause-not_both c = not_both

pub returns-clause-one_fault : goal.returns-clause-one_fault
returns-clause-one_fault c = one_fault

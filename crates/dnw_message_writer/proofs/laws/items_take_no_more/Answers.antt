use Rattle.dnw_message_writer.proofs.Sizes.{questions_take_no_more, records_take_no_more}
use Rattle.dnw_message_writer.proofs.laws.items_take_no_more.Goals as goal

pub returns-clause-question : goal.returns-clause-question
returns-clause-question c = questions_take_no_more

pub returns-clause-record : goal.returns-clause-record
returns-clause-record c = records_take_no_more

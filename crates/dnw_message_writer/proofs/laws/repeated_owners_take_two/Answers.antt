use Rattle.dnw_message_writer.proofs.Repeats.{hints_begin, near_owners_take_two, questions_are_near, records_are_near}
use Rattle.dnw_message_writer.proofs.laws.repeated_owners_take_two.Goals as goal

pub returns-clause-begun : goal.returns-clause-begun
returns-clause-begun c = hints_begin

pub returns-clause-question : goal.returns-clause-question
returns-clause-question c = questions_are_near

pub returns-clause-record : goal.returns-clause-record
returns-clause-record c = records_are_near

pub returns-clause-two : goal.returns-clause-two
returns-clause-two c = near_owners_take_two

use Rattle.dnw_message_writer.proofs.ContentsBack.{questions_are_added, records_are_added}
use Rattle.dnw_message_writer.proofs.ContentsKept.{begun_messages_are_empty, cut_messages_hold, last_records_are_added, sets_are_added, unchanged_messages_hold}
use Rattle.dnw_message_writer.proofs.GivenRecords.{given_records_are_added}
use Rattle.dnw_message_writer.proofs.laws.messages_hold_their_items.Goals as goal

pub returns-clause-begun : goal.returns-clause-begun
returns-clause-begun c = begun_messages_are_empty

pub returns-clause-question : goal.returns-clause-question
returns-clause-question c = questions_are_added

pub returns-clause-record : goal.returns-clause-record
returns-clause-record c = records_are_added

pub returns-clause-given : goal.returns-clause-given
returns-clause-given c = given_records_are_added

pub returns-clause-set : goal.returns-clause-set
returns-clause-set c = sets_are_added

pub returns-clause-last : goal.returns-clause-last
returns-clause-last c = last_records_are_added

pub returns-clause-cut : goal.returns-clause-cut
returns-clause-cut c = cut_messages_hold

pub returns-clause-unchanged : goal.returns-clause-unchanged
returns-clause-unchanged c = unchanged_messages_hold

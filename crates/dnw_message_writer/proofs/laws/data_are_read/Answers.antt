use Rattle.dnw_message_writer.proofs.DataBack.{data_names_are_read, octets_are_read}
use Rattle.dnw_message_writer.proofs.GivenData.{given_data_come_back}
use Rattle.dnw_message_writer.proofs.laws.data_are_read.Goals as goal

pub returns-clause-octets : goal.returns-clause-octets
returns-clause-octets c = octets_are_read

pub returns-clause-name : goal.returns-clause-name
returns-clause-name c = data_names_are_read

pub returns-clause-given : goal.returns-clause-given
returns-clause-given c = given_data_come_back

use Rattle.ans_response.proofs.Chains.{data_are_there, missing_names_have_no_data, no_data_are_there}
use Rattle.ans_response.proofs.laws.data_are_there.Goals as goal

pub returns-clause-data : goal.returns-clause-data
returns-clause-data c = data_are_there

pub returns-clause-no_data : goal.returns-clause-no_data
returns-clause-no_data c = no_data_are_there

pub returns-clause-no_name : goal.returns-clause-no_name
returns-clause-no_name c = missing_names_have_no_data

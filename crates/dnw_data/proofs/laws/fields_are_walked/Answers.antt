use Rattle.dnw_data.proofs.Walking.{fields_are_walked}
use Rattle.dnw_data.proofs.laws.fields_are_walked.Goals as goal

pub returns : goal.returns
returns c = fields_are_walked

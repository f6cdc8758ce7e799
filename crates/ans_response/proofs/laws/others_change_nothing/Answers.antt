use Rattle.ans_response.proofs.Chains.{others_change_nothing}
use Rattle.ans_response.proofs.laws.others_change_nothing.Goals as goal

pub returns : goal.returns
returns c = others_change_nothing

use Rattle.ans_response.proofs.Chains.{zones_deny_their_names}
use Rattle.ans_response.proofs.laws.zones_deny_their_names.Goals as goal

pub returns : goal.returns
returns c = zones_deny_their_names

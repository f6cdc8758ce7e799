use Rattle.ans_response.proofs.Chains.{referrals_lead_down}
use Rattle.ans_response.proofs.laws.referrals_lead_down.Goals as goal

pub returns : goal.returns
returns c = referrals_lead_down

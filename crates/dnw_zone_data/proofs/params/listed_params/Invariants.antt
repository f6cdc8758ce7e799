use Rattle.std.proofs.Common.{length}
use Rattle.dnw_zone_data.specs.Inside.ParamSteps.{LeadToParams}
use Rattle.dnw_zone_data.proofs.params.listed_params.Given as goal

-- the parameters so far, and what is left
abbrev pub invariant-params : goal.invariant-params
invariant-params l = LeadToParams l.text l.params.items l.left

abbrev pub decreases-params : goal.decreases-params
decreases-params l = length l.left

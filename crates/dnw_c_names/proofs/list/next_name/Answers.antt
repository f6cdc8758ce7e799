use Rattle.dnw_c_base.proofs.Starts.{takes_onward, takes_within}
use Rattle.dnw_c_names.proofs.list.next_name.Goals as goal

pub returns-clause-onward : goal.returns-clause-onward
returns-clause-onward c = takes_onward c.in_ok-name.ensures.ok.0

pub returns-clause-within : goal.returns-clause-within
returns-clause-within c = takes_within c.in_ok-name.ensures.ok.0

use Rattle.dnw_data.proofs.Checking.{is_checked}
use Rattle.dnw_data.proofs.lists.Items.new.Goals as goal

pub invariant_of-result : goal.invariant_of-result
invariant_of-result c = is_checked c.args.kind c.args.octets.now c.in_ok-check.ensures.ok

use Rattle.dnw_name_order.proofs.SortKeys.{keys_are_equal as law}
use Rattle.dnw_name_order.proofs.sort_key.laws.keys_are_equal.Goals as goal

pub returns : goal.returns
returns c = law

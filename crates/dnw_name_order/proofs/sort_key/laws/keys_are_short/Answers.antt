use Rattle.dnw_name_order.proofs.SortKeys.{keys_are_short}
use Rattle.dnw_name_order.proofs.sort_key.laws.keys_are_short.Goals as goal

pub returns-clause-short : goal.returns-clause-short
returns-clause-short c = keys_are_short

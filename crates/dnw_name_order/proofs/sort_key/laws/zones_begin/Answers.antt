use Rattle.dnw_name_order.proofs.SortKeys.{zones_begin as law}
use Rattle.dnw_name_order.proofs.sort_key.laws.zones_begin.Goals as goal

pub returns : goal.returns
returns c = law

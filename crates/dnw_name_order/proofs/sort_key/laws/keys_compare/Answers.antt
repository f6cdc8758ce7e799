use Rattle.dnw_name_order.proofs.SortKeys.{ended_keys_compare, keys_compare, keys_compare_names}
use Rattle.dnw_name_order.proofs.sort_key.laws.keys_compare.Goals as goal

pub returns : goal.returns
returns c = record { labels = keys_compare; ended = ended_keys_compare; names = keys_compare_names }

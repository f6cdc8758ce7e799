use Rattle.std.proofs.Common.{◌≡◌, ◌+◌, ◌++◌, length, take}
use Rattle.std.specs.List.{flat_map}
use Rattle.dnw_base.specs.Names.{lower}
use Rattle.dnw_name_order.specs.SortKeys.{label_key, sort_key}
use Rattle.dnw_name_order.proofs.sort_key.put_labels.Given as goal

abbrev pub invariant-labels : goal.invariant-labels
invariant-labels l = record {
  octets : take l.end l.buffer ++ flat_map label_key (lower l.rest) ≡ sort_key l.fn.labels;
  size : l.end + length (flat_map label_key (lower l.rest)) ≡ length (sort_key l.fn.labels);
}

abbrev pub decreases-labels : goal.decreases-labels
decreases-labels l = length l.rest

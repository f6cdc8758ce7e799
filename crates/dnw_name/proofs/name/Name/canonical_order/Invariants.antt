use Rattle.std.proofs.Common.{◌≡◌, map, take}
use Rattle.dnw_name_order.specs.SortKeys.{sort_key}
use Rattle.dnw_name.proofs.name.Name.canonical_order.Given as goal

abbrev pub invariant-loop-name : goal.invariant-loop-name
invariant-loop-name l = l.keys ≡ map sort_key (map (λ name. name.labels) (take l.name-index l.names))

use Rattle.std.proofs.Common.{◌≡◌, map, take}
use Rattle.dnw_name_order.specs.SortKeys.{sort_key}
use Rattle.dnw_name.proofs.name_ref.NameRef.canonical_order.Given as goal

abbrev pub invariant-loop-name : goal.invariant-loop-name
invariant-loop-name l = l.keys ≡ map sort_key (take l.name-index l.names)

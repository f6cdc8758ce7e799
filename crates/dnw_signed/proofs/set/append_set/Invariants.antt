use Rattle.std.proofs.Common.{◌≡◌, ◌++◌, take}
use Rattle.std.specs.List.{flat_map}
use Rattle.dnw_signed.specs.RecordSets.{set_record}
use Rattle.dnw_signed.specs.Inside.Going.{all_octets}
use Rattle.dnw_signed.proofs.set.append_set.Given as goal

abbrev pub invariant-records : goal.invariant-records
invariant-records l = l.out.items ≡ l.fn.out.items ++ flat_map (set_record l.fn.head) (all_octets (take l.item-index l.fn.all))

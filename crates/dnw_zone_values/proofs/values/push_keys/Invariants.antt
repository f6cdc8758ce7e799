use Rattle.std.proofs.Common.{◌≡◌, ◌++◌, take}
use Rattle.dnw_zone_values.specs.ParamWords.{keys_wire}
use Rattle.dnw_zone_values.proofs.values.push_keys.Given as goal

abbrev pub invariant-loop-key : goal.invariant-loop-key
invariant-loop-key l = l.out.items ≡ l.fn.out.items ++ keys_wire (take l.key-index l.keys)

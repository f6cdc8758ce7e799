use Rattle.std.proofs.Common.{◌≡◌, ◌++◌, take}
use Rattle.dnw_zone_values.specs.Params.{params_wire}
use Rattle.dnw_zone_values.proofs.param.push_params.Given as goal

abbrev pub invariant-loop-param : goal.invariant-loop-param
invariant-loop-param l = l.out.items ≡ l.fn.out.items ++ params_wire (take l.param-index l.params)

use Rattle.std.proofs.Common.{◌≡◌, length}
use Rattle.dnw_zone_values.specs.ParamValues.{is_ascending}
use Rattle.dnw_zone_values.proofs.lists.is_ascending.Given as goal

-- what is left, from here, ascends if all does
abbrev pub invariant-loop-key : goal.invariant-loop-key
invariant-loop-key l = is_ascending l.least l.left ≡ is_ascending 1 l.octets

abbrev pub decreases-loop-key : goal.decreases-loop-key
decreases-loop-key l = length l.left

use Rattle.std.proofs.Common.{◌≡◌, ◌++◌, length}
use Rattle.dnw_zone_values.specs.ParamWords.{keys_of}
use Rattle.dnw_zone_values.proofs.values.keys_of.Given as goal

-- the keys so far, and those of what is left
abbrev pub invariant-loop-key : goal.invariant-loop-key
invariant-loop-key l = l.keys.items ++ keys_of l.left ≡ keys_of l.octets

abbrev pub decreases-loop-key : goal.decreases-loop-key
decreases-loop-key l = length l.left

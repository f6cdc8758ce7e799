use Rattle.std.proofs.Common.{◌≡◌, length}
use Rattle.dnw_zone_values.specs.Mandatory.{listed_keys, keys_after, are_among}
use Rattle.dnw_zone_values.proofs.mandatory.are_among.Given as goal

-- what is left gives what all gives
abbrev pub invariant-loop-key : goal.invariant-loop-key
invariant-loop-key l = are_among (listed_keys l.wanted) (keys_after 0 l.left) ≡ are_among (listed_keys l.listed) (keys_after 0 l.octets)

abbrev pub decreases-loop-key : goal.decreases-loop-key
decreases-loop-key l = length l.left

use Rattle.std.proofs.Common.{◌≡◌, length}
use Rattle.dnw_data.specs.TypeSets.{windows_of, in_bounds}
use Rattle.dnw_data.proofs.record_type_set.bitmap.is_in_bounds.Given as goal

abbrev pub invariant-loop-octets : goal.invariant-loop-octets
invariant-loop-octets l = in_bounds (windows_of l.rest) ≡ in_bounds (windows_of l.bitmap)

abbrev pub decreases-loop-octets : goal.decreases-loop-octets
decreases-loop-octets l = length l.rest

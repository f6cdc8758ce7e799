use Rattle.std.proofs.Common.{length, false}
use Rattle.dnw_zone_data.specs.Words.{plain_len}
use Rattle.dnw_zone_data.proofs.Lanes.{Passed}
use Rattle.dnw_zone_data.proofs.words.after_lanes.Given as goal

abbrev pub invariant-lanes : goal.invariant-lanes
invariant-lanes l = Passed (plain_len false) l.text l.left

abbrev pub decreases-lanes : goal.decreases-lanes
decreases-lanes l = length l.left

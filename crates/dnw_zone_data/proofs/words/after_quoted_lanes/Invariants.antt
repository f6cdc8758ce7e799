use Rattle.std.proofs.Common.{length, false}
use Rattle.dnw_zone_data.specs.Words.{quoted_len}
use Rattle.dnw_zone_data.proofs.Lanes.{Passed}
use Rattle.dnw_zone_data.proofs.words.after_quoted_lanes.Given as goal

abbrev pub invariant-lanes : goal.invariant-lanes
invariant-lanes l = Passed (quoted_len false) l.text l.left

abbrev pub decreases-lanes : goal.decreases-lanes
decreases-lanes l = length l.left

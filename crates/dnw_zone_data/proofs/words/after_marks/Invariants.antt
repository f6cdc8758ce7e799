use Rattle.std.proofs.Common.{length}
use Rattle.dnw_zone_data.specs.Inside.WordParts.{PassesMarks}
use Rattle.dnw_zone_data.proofs.words.after_marks.Given as goal

abbrev pub invariant-lanes : goal.invariant-lanes
invariant-lanes l = PassesMarks l.text l.left

abbrev pub decreases-lanes : goal.decreases-lanes
decreases-lanes l = length l.left

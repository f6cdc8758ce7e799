use Rattle.std.proofs.Common.{length}
use Rattle.dnw_zone_data.specs.Inside.WordParts.{PassesMarks}
use Rattle.dnw_zone_data.proofs.words.from_space.Given as goal

abbrev pub invariant-loop-first : goal.invariant-loop-first
invariant-loop-first l = PassesMarks l.text l.left

abbrev pub decreases-loop-first : goal.decreases-loop-first
decreases-loop-first l = length l.left

use Rattle.std.proofs.Common.{length}
use Rattle.dnw_zone_data.proofs.Lanes.{Passed}
use Rattle.dnw_zone_record.specs.declared.scan.Place.TheVariants.{Words}
use Rattle.dnw_zone_record.specs.Lines.{kept_len}
use Rattle.dnw_zone_record.proofs.scan.after_plain.Given as goal

abbrev pub invariant-lanes : goal.invariant-lanes
invariant-lanes l = Passed (kept_len Words) l.text l.left

abbrev pub decreases-lanes : goal.decreases-lanes
decreases-lanes l = length l.left

abbrev pub invariant-fours : goal.invariant-fours
invariant-fours l = Passed (kept_len Words) l.text l.left

abbrev pub decreases-fours : goal.decreases-fours
decreases-fours l = length l.left

abbrev pub invariant-loop-first : goal.invariant-loop-first
invariant-loop-first l = Passed (kept_len Words) l.text l.left

abbrev pub decreases-loop-first : goal.decreases-loop-first
decreases-loop-first l = length l.left

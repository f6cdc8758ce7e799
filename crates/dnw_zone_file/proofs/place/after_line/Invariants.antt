use Rattle.std.proofs.Common.{◌≤◌, length}
use Rattle.dnw_zone_file.specs.Inside.PlaceLines.{IsInLineUpTo}
use Rattle.dnw_zone_file.proofs.place.after_line.Given as goal

abbrev pub invariant-fours : goal.invariant-fours
invariant-fours l = record { within : length l.left ≤ length l.text; same : IsInLineUpTo l.left l.text }

abbrev pub decreases-fours : goal.decreases-fours
decreases-fours l = length l.left

abbrev pub invariant-loop-c : goal.invariant-loop-c
invariant-loop-c l = record { within : length l.left ≤ length l.text; same : IsInLineUpTo l.left l.text }

abbrev pub decreases-loop-c : goal.decreases-loop-c
decreases-loop-c l = length l.left

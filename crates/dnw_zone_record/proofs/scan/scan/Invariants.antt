use Rattle.std.proofs.Common.{◌≡◌, ◌+◌, length}
use Rattle.dnw_zone_record.specs.Lines.{line_from, line_of}
use Rattle.dnw_zone_record.proofs.scan.scan.Given as goal

-- what is left, after the line so far, makes the line of all
abbrev pub invariant-loop-c : goal.invariant-loop-c
invariant-loop-c l = record {
  line : line_from l.line.items l.place l.depth l.left ≡ line_of l.text;
  count : length l.line.items + length l.left ≡ length l.text;
}

abbrev pub decreases-loop-c : goal.decreases-loop-c
decreases-loop-c l = length l.left

use Rattle.std.proofs.Common.{◌≡◌, ◌≤◌, ◌-◌, length}
use Rattle.dnw_zone_record.specs.Lines.{opened_from, opened_in}
use Rattle.dnw_zone_record.proofs.scan.opened_in.Given as goal

-- what is left, after the offsets so far, makes those of all
abbrev pub invariant-loop-c : goal.invariant-loop-c
invariant-loop-c l = record {
  opened : opened_from l.quote l.group (length l.text - length l.left) l.place l.depth l.left ≡ opened_in l.text;
  within : length l.left ≤ length l.text;
}

abbrev pub decreases-loop-c : goal.decreases-loop-c
decreases-loop-c l = length l.left

use Rattle.std.proofs.Common.{◌≡◌, ◌≤◌, ◌+◌, ◌-◌, length}
use Rattle.dnw_zone_file.specs.Templates.{len_before}
use Rattle.dnw_zone_file.proofs.template.len_before.Given as goal

abbrev pub invariant-loop-c : goal.invariant-loop-c
invariant-loop-c l = (length l.left ≤ length l.text) × ((length l.text - length l.left) + len_before l.octet l.left ≡ len_before l.octet l.text)

abbrev pub decreases-loop-c : goal.decreases-loop-c
decreases-loop-c l = length l.left

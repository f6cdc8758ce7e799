use Rattle.std.proofs.Common.{◌≡◌, ◌≤◌, length}
use Rattle.dnw_zone_file.specs.Templates.{max_number, number_after}
use Rattle.dnw_zone_file.proofs.template.number_of.Given as goal

abbrev pub invariant-loop-c : goal.invariant-loop-c
invariant-loop-c l = (l.number ≤ max_number) × (number_after l.number l.left ≡ number_after 0 l.text)

abbrev pub decreases-loop-c : goal.decreases-loop-c
decreases-loop-c l = length l.left

use Rattle.std.proofs.Common.{◌≤◌, length}
use Rattle.dnw_zone_lexer.specs.Times.{max_ttl}
use Rattle.dnw_zone_data.proofs.FewDigits.{NumberAt}
use Rattle.dnw_zone_data.proofs.number_form.first_number.Given as goal

abbrev pub invariant-loop-c : goal.invariant-loop-c
invariant-loop-c l = NumberAt l.text l.left l.number × (l.number ≤ max_ttl)

abbrev pub decreases-loop-c : goal.decreases-loop-c
decreases-loop-c l = length l.left

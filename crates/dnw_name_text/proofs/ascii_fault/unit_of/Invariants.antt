use Rattle.std.proofs.Common.{length}
use Rattle.dnw_name_text.specs.Inside.TextProgress.{IsWithinText}
use Rattle.dnw_name_text.proofs.ascii_fault.unit_of.Given as goal

abbrev pub invariant-loop-c : goal.invariant-loop-c
invariant-loop-c l = IsWithinText l.fn.text l.state l.rest

abbrev pub decreases-loop-c : goal.decreases-loop-c
decreases-loop-c l = length l.rest

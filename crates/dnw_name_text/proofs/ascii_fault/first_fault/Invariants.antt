use Rattle.std.proofs.Common.{length}
use Rattle.dnw_name_text.specs.Inside.TextProgress.{HasRead}
use Rattle.dnw_name_text.proofs.ascii_fault.first_fault.Given as goal

abbrev pub invariant-loop-rest : goal.invariant-loop-rest
invariant-loop-rest l = HasRead l.text l.progress l.rest

abbrev pub decreases-loop-rest : goal.decreases-loop-rest
decreases-loop-rest l = length l.rest

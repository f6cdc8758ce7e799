use Rattle.std.proofs.Common.{length}
use Rattle.dnw_commands.proofs.base.words.Given.of.Given as goal

abbrev pub decreases-loop-rest : goal.decreases-loop-rest
decreases-loop-rest l = length l.rest

use Rattle.std.proofs.Common.{length}
use Rattle.dnw_zone_file.proofs.Templates.{MadeSoFar}
use Rattle.dnw_zone_file.proofs.template.put_made.Given as goal

abbrev pub invariant-pieces : goal.invariant-pieces
invariant-pieces l = MadeSoFar l.number l.quoted l.template l.fn.out.items l.out.items l.left

abbrev pub decreases-pieces : goal.decreases-pieces
decreases-pieces l = length l.left

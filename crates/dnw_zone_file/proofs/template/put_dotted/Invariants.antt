use Rattle.std.proofs.Common.{◌≡◌, ◌++◌, length}
use Rattle.dnw_zone_file.specs.Templates.{dotted}
use Rattle.dnw_zone_file.proofs.template.put_dotted.Given as goal

abbrev pub invariant-loop-digit : goal.invariant-loop-digit
invariant-loop-digit l = l.out.items ++ dotted l.left ≡ l.fn.out.items ++ dotted l.digits

abbrev pub decreases-loop-digit : goal.decreases-loop-digit
decreases-loop-digit l = length l.left

use Rattle.std.proofs.Common.{length}
use Rattle.dnw_signed.specs.Inside.Putting.{IsPuttingFew}
use Rattle.dnw_signed.proofs.fields.put_few.Given as goal

abbrev pub invariant-fields : goal.invariant-fields
invariant-fields l = IsPuttingFew l.kinds l.fn.start l.fn.left l.fn.out.items l.later l.reader l.left l.out.items

abbrev pub decreases-fields : goal.decreases-fields
decreases-fields l = length l.later

use Rattle.std.proofs.Common.{length}
use Rattle.dnw_signed.specs.Inside.Putting.{IsPutting}
use Rattle.dnw_signed.proofs.fields.put_fields.Given as goal

abbrev pub invariant-fields : goal.invariant-fields
invariant-fields l = IsPutting l.kinds l.fn.start l.fn.out.items l.left l.reader l.out.items

abbrev pub decreases-fields : goal.decreases-fields
decreases-fields l = length l.left

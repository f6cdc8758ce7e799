use Rattle.std.proofs.Common.{length}
use Rattle.dnw_record.specs.Inside.Copying.{IsCopying}
use Rattle.dnw_record.proofs.rdata.copy_fields.Given as goal

abbrev pub invariant-fields : goal.invariant-fields
invariant-fields l = IsCopying l.kinds l.fn.reader l.fn.octets.items l.left l.reader l.octets.items

abbrev pub decreases-fields : goal.decreases-fields
decreases-fields l = length l.left

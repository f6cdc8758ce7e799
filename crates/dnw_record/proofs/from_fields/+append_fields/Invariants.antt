use Rattle.std.proofs.Common.{length}
use Rattle.dnw_record.proofs.from_fields.+append_fields.Given as goal

abbrev pub decreases-append_fields : goal.decreases-append_fields
decreases-append_fields l = length l.kinds.now

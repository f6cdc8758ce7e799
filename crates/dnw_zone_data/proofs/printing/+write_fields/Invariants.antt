use Rattle.std.proofs.Common.{length}
use Rattle.dnw_zone_data.proofs.printing.+write_fields.Given as goal

abbrev pub decreases-write_fields : goal.decreases-write_fields
decreases-write_fields l = length l.kinds.now

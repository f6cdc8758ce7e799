use Rattle.std.proofs.Common.{◌-◌, length}
use Rattle.dnw_c_signed.proofs.Following.{IsReading}
use Rattle.dnw_c_signed.proofs.records.records_from.Given as goal

abbrev pub invariant-records : goal.invariant-records
invariant-records l = IsReading l.message l.start l.reader l.left l.records.items

abbrev pub decreases-records : goal.decreases-records
decreases-records l = length l.message - l.reader.index

use Rattle.std.proofs.Common.{◌-◌, length}
use Rattle.dnw_c_signed.proofs.Copied.{AreCopying}
use Rattle.dnw_c_signed.proofs.zones.copies_of.Given as goal

abbrev pub invariant-records : goal.invariant-records
invariant-records l = AreCopying l.records l.reader l.left l.copies.items

abbrev pub decreases-records : goal.decreases-records
decreases-records l = length l.records - l.reader.index

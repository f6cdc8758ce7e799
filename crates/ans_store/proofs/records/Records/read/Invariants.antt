use Rattle.std.proofs.Common.{◌-◌, length}
use Rattle.ans_store.proofs.Reading.{AreKept}
use Rattle.ans_store.proofs.records.Records.read.Given as goal

abbrev pub invariant-records : goal.invariant-records
invariant-records l = AreKept l.octets l.offsets.items l.start

abbrev pub decreases-records : goal.decreases-records
decreases-records l = length l.octets - l.start

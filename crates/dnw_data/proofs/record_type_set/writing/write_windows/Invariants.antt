use Rattle.std.proofs.Common.{length}
use Rattle.dnw_data.proofs.Writing.{Written}
use Rattle.dnw_data.proofs.record_type_set.writing.write_windows.Given as goal

abbrev pub invariant-loop-code : goal.invariant-loop-code
invariant-loop-code l = Written l.codes l.bytes.items l.rest

abbrev pub decreases-loop-code : goal.decreases-loop-code
decreases-loop-code l = length l.rest

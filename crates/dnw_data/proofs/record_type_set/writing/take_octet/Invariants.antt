use Rattle.dnw_data.proofs.Writing.{Taken}
use Rattle.dnw_data.proofs.record_type_set.writing.take_octet.Given as goal

abbrev pub invariant-loop-bit : goal.invariant-loop-bit
invariant-loop-bit l = Taken l.first l.octet l.bit l.codes l.rest

use Rattle.dnw_data.proofs.Writing.{Used}
use Rattle.dnw_data.proofs.record_type_set.writing.used_len.Given as goal

abbrev pub invariant-loop-len : goal.invariant-loop-len
invariant-loop-len l = Used l.octets l.len

abbrev pub decreases-loop-len : goal.decreases-loop-len
decreases-loop-len l = l.len

use Rattle.dnw_data.proofs.Writing.{TakenOctets}
use Rattle.dnw_data.proofs.record_type_set.writing.take_octets.Given as goal

abbrev pub invariant-loop-index : goal.invariant-loop-index
invariant-loop-index l = TakenOctets l.first l.index l.octets.items l.codes l.rest

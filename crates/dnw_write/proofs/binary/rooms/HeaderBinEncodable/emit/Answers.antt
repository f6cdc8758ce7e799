use Rattle.dnw_write.proofs.binary.rooms.HeaderBinEncodable.emit.Goals as goal

pub returns-clause-emits : goal.returns-clause-emits
returns-clause-emits c = rw c.to_octets.ensures.octets at c.emit_vec.ensures.writes

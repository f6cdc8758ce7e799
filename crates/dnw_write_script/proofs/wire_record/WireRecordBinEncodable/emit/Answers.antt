use Rattle.dnw_write_script.proofs.Going.{name_on, wire_data_on}
use Rattle.dnw_write_script.proofs.wire_record.WireRecordBinEncodable.emit.Goals as goal

pub emit_record-requires-clause-owner : goal.emit_record-requires-clause-owner
emit_record-requires-clause-owner c = name_on c.args.self.now.owner

pub emit_record-requires-clause-rdata : goal.emit_record-requires-clause-rdata
emit_record-requires-clause-rdata c = wire_data_on c.args.self.now.rdata

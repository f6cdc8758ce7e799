use Rattle.dns_names_wire.specs.Words.{value}
use Rattle.uses.proofs.Written.{whole}
use Rattle.uses.proofs.records.write_whole.Goals as goal

pub returns-clause-written : goal.returns-clause-written
returns-clause-written c =
    (whole c.refused_records_undo.ensures.record c.candidates_precede.ensures.records c.args.item.now (value c.args.encoder.now) (value c.emit.new.encoder) c.emit.result
    c.requires c.emit.ensures.emits).0

pub returns-clause-unchanged : goal.returns-clause-unchanged
returns-clause-unchanged c =
    (whole c.refused_records_undo.ensures.record c.candidates_precede.ensures.records c.args.item.now (value c.args.encoder.now) (value c.emit.new.encoder) c.emit.result
    c.requires c.emit.ensures.emits).1

pub returns-clause-ready : goal.returns-clause-ready
returns-clause-ready c =
    (whole c.refused_records_undo.ensures.record c.candidates_precede.ensures.records c.args.item.now (value c.args.encoder.now) (value c.emit.new.encoder) c.emit.result
    c.requires c.emit.ensures.emits).2

use Rattle.std.proofs.Common.{sym, ◌∙◌, ap, arith}
use Rattle.dnw_write_script.proofs.Going.{order_on, undone}
use Rattle.dnw_write.specs.Marks.{rewound}
use Rattle.dnw_write.specs.EncoderValue.{value}
use Rattle.dnw_write_script.specs.WrittenRecords.{FixedFit, InOrder, fixed_octets}
use Rattle.dnw_write_script.proofs.emitting.emit_record.Goals as goal

pub undo-requires : goal.undo-requires
undo-requires g c =
    let (on, _) = order_on _ _ _ c.requires.owner c.requires.rdata _ _ _ c.emit_fields-outcome.ensures.writes in
    omega (arith, on, c.emit_fields-outcome.new.encoder.within, ap (λ m. m.offset) c.mark-mark.ensures)

pub returns-then-is_err-clause-writes : goal.returns-then-is_err-clause-writes
returns-then-is_err-clause-writes g c =
    undone (FixedFit c.args.record_type c.args.class c.args.ttl)
    (InOrder (g.N.BinEncodable.emits c.args.owner.now) (fixed_octets c.args.record_type c.args.class c.args.ttl) (g.D.BinEncodable.emits c.args.rdata.now))
    (value c.args.encoder.now) (value c.emit_fields-outcome.new.encoder) c.emit_fields-outcome.result (value c.undo.new.encoder)
    (sym c.is_err.ensures.value ∙ c.if-is_err.true) (rw c.fixed_octets-fixed.ensures.octets at c.emit_fields-outcome.ensures.writes)
    (c.undo.ensures.value ∙ ap (rewound (value c.emit_fields-outcome.new.encoder)) c.mark-mark.ensures)

-- The owner, the fixed fields and the data are written in turn, up to the first that fails. The data end within the maximum, and so
-- their length fits two octets.
use Rattle.std.proofs.Common.{List, ℕ, Ok, Err, inr, ap, arith}
use Rattle.dnw_write.specs.Encoder.{Encoder, Writes}
use Rattle.dnw_write.specs.Emitting.{Outcome}
use Rattle.dnw_write.specs.EncoderValue.{value}
use Rattle.dnw_write_script.specs.Parts.{EmitsSized, Write}
use Rattle.dnw_write_script.specs.WrittenRecords.{InOrder}
use Rattle.dnw_write_script.proofs.Going.{sized}
use Rattle.dnw_write_script.proofs.emitting.emit_fields.Goals as goal

-- all but the last are written, and then the last
then_last : (first : Write) (fixed : List ℕ) (last : Write) (v a d : Encoder) (outcome : Outcome) (w : Encoder) → first v (Ok tt) a
    → Writes a fixed (Ok tt) d → EmitsSized last d outcome w → InOrder first fixed last v outcome w
then_last first fixed last v a d (Ok tt) w owner octets rdata = (a, owner, (d, octets, rdata))
then_last first fixed last v a d (Err error) w owner octets rdata = inr (a, owner, inr (d, octets, rdata))

pub len_since_place-len-requires : goal.len_since_place-len-requires
len_since_place-len-requires g c =
    let (on, _) = c.requires _ _ _ c.in_ok-emit-2.ensures.emits in
    omega (arith, on, c.in_ok-place.ensures.place, ap (λ x. x.offset) c.in_ok-place.ensures.value.1)

pub prove-unreachable-requires : goal.prove-unreachable-requires
prove-unreachable-requires g c =
    let (_, within) = c.requires _ _ _ c.in_ok-emit-2.ensures.emits in
    omega (arith, within, c.len_since_place-len.ensures, c.max_size-most.ensures, c.if-prove.true)

pub returns-clause-writes : goal.returns-clause-writes
returns-clause-writes g c =
    let room = c.in_ok-place.ensures.value in
    let d = value c.emit_vec.new.self in
    let (_, within) = c.requires (value c.place.new.self) (Ok tt) (value c.emit-2.new.encoder) c.in_ok-emit-2.ensures.emits in
    then_last (g.N.BinEncodable.emits c.args.owner.now) c.args.fixed.now (g.D.BinEncodable.emits c.args.rdata.now) (value c.args.encoder.now)
    (value c.emit.new.encoder) d c.emit_at.result (value c.emit_at.new.self) c.in_ok-emit.ensures.emits c.in_ok-emit_vec.ensures.writes
    (sized (g.D.BinEncodable.emits c.args.rdata.now) d (value c.place.new.self) (value c.emit-2.new.encoder) (value c.emit_at.new.self)
    c.in_ok-place.place c.len_since_place-len.result c.emit_at.result room.0 room.1 c.in_ok-emit-2.ensures.emits c.in_ok-place.ensures.place
    c.len_since_place-len.ensures within (omega (arith, c.emit-2.new.encoder.within)) c.emit_at.ensures.emits)

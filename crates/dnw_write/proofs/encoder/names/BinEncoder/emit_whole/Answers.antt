-- The name is written whole, or nothing is changed.
use Rattle.std.proofs.Common.{◌≡◌, ℕ, List, ◌≤◌, length, refl, ap, ◌∙◌, inr, arith}
use Rattle.dnw_base.specs.Names.{encoded_size, wire}
use Rattle.dnw_base.proofs.Wires.{AreLabels_few, length_wire}
use Rattle.dnw_write.specs.Encoder.{HasRoom}
use Rattle.dnw_write.specs.EncoderValue.{value}
use Rattle.dnw_write.specs.EmittedName.{kept}
use Rattle.dnw_write.proofs.Emission.{kept_all, whole_done, whole_undone}
use Rattle.dnw_write.proofs.encoder.names.BinEncoder.emit_whole.Goals as goal

size : (ls : List (List ℕ)) (bytes : List ℕ) → bytes ≡ wire ls → length bytes ≡ encoded_size ls
size ls bytes is = ap length is ∙ length_wire ls

pub returns-then-not-has_room-clause-writes : goal.returns-then-not-has_room-clause-writes
returns-then-not-has_room-clause-writes c =
    (rw (size _ _ c.as_wire-wire.ensures.form) at (c.has_room.ensures.no c.if-not-has_room.true), refl, refl)

pub returns-in_default-clause-writes : goal.returns-in_default-clause-writes
returns-in_default-clause-writes c =
    let v = value c.args.self.now in
    let ls = c.args.name.now in
    let room : HasRoom v (encoded_size ls) = rw (size _ _ c.as_wire-wire.ensures.form) at (c.has_room.ensures.yes c.if-not-has_room.false) in
    let few : length ls ≤ 255 = omega (arith, AreLabels_few ls c.as_wire-wire.ensures.labels) in
    (room, inr (λ none. c.in_default.ensures.needed (kept_all v ls 255 few ∙ none)), c.in_default.ensures.same)

pub returns-in_default-emit_vec-clause-writes : goal.returns-in_default-emit_vec-clause-writes
returns-in_default-emit_vec-clause-writes c =
    let v = value c.args.self.now in
    let ls = c.args.name.now in
    let room : HasRoom v (encoded_size ls) = rw (size _ _ c.as_wire-wire.ensures.form) at (c.has_room.ensures.yes c.if-not-has_room.false) in
    rw (c.truncate.ensures, c.len-stored.ensures) (whole_undone v ls room (value c.keep_suffixes.new.self) (value c.emit_vec.new.self) c.as_wire-wire.result.now
    c.in_default-emit_vec.field-0 (kept v ls 255) c.in-Ok.ensures.ok c.as_wire-wire.ensures.form c.in_default-emit_vec.ensures.writes)

pub returns-clause-writes : goal.returns-clause-writes
returns-clause-writes c =
    let v = value c.args.self.now in
    let ls = c.args.name.now in
    let room : HasRoom v (encoded_size ls) = rw (size _ _ c.as_wire-wire.ensures.form) at (c.has_room.ensures.yes c.if-not-has_room.false) in
    let few : length ls ≤ 255 = omega (arith, AreLabels_few ls c.as_wire-wire.ensures.labels) in
    whole_done v ls room (value c.keep_suffixes.new.self) (value c.emit_vec.new.self) c.as_wire-wire.result.now c.counted-names.result (kept v ls 255)
    c.in-Ok.ensures.ok c.as_wire-wire.ensures.form (kept_all v ls 255 few) c.counted-names.ensures c.in-Ok-emit_vec.ensures.writes

-- The labels before the suffix are written and a pointer for it, or nothing is changed.
use Rattle.std.proofs.Common.{◌≡◌, ◌+◌, ◌-◌, length, take, refl, ap, ◌∙◌, inr, arith}
use Rattle.dnw_base.specs.Names.{labels_wire}
use Rattle.dnw_base.proofs.Wires.{length_wire}
use Rattle.dnw_write.specs.Encoder.{Encoder, HasRoom}
use Rattle.dnw_write_suffixes.specs.Candidates.{candidates_before}
use Rattle.dnw_write.specs.EncoderValue.{value}
use Rattle.dnw_write.specs.EmittedName.{kept}
use Rattle.dnw_write.specs.Inside.Sharing.{share_of}
use Rattle.dnw_write.proofs.Emission.{front_bytes, kept_front, shared_done, shared_undone}
use Rattle.dnw_write.proofs.Suffixes.{length_all, labels_wire_take}
use Rattle.dnw_write.proofs.encoder.names.BinEncoder.emit_shared.Goals as goal
use Rattle.dnw_write.proofs.encoder.names.BinEncoder.emit_shared.Goals.{Else-not-has_room}

pub returns-then-not-has_room-clause-writes : goal.returns-then-not-has_room-clause-writes
returns-then-not-has_room-clause-writes c =
    let ls = c.args.name.now in
    let all : length c.as_wire-wire.result.now - 1 ≡ length (labels_wire ls) = omega (arith, ap length c.as_wire-wire.ensures.form, length_wire ls, length_all ls) in
    (omega (arith, c.has_room.ensures.no c.if-not-has_room.true, all), refl, refl)

room : (c : Else-not-has_room) → HasRoom (value c.args.self.now) (length (labels_wire c.args.name.now))
room c =
    let ls = c.args.name.now in
    omega (arith, c.has_room.ensures.yes c.if-not-has_room.false, ap length c.as_wire-wire.ensures.form, length_wire ls, length_all ls)

pub returns-in_default-clause-writes : goal.returns-in_default-clause-writes
returns-in_default-clause-writes c =
    let all = kept_front (value c.args.self.now) c.args.name.now c.args.suffix.labels c.args.suffix.target c.requires.suffix.within in
    (room (goal.at.returns-in_default-clause-writes c).Else-not-has_room, inr (λ none. c.in_default.ensures.needed (all ∙ none)), c.in_default.ensures.same)

pub write_front-requires-clause-fits : goal.write_front-requires-clause-fits
write_front-requires-clause-fits c =
    let ls = c.args.name.now in
    let n = c.args.suffix.labels in
    let offset = ap (λ (x : Encoder). x.offset) c.in-Ok.ensures.ok in
    omega (arith, room (goal.at.write_front-requires-clause-fits c).Else-not-has_room, offset, ap length (front_bytes ls n c.args.suffix.size c.as_wire-wire.result.now c.as_wire-wire.ensures.form c.requires.suffix.size_is), labels_wire_take n ls)

pub returns-in_default-write_front-clause-writes : goal.returns-in_default-write_front-clause-writes
returns-in_default-write_front-clause-writes c =
    let v = value c.args.self.now in
    let ls = c.args.name.now in
    let n = c.args.suffix.labels in
    let front = front_bytes ls n c.args.suffix.size c.as_wire-wire.result.now c.as_wire-wire.ensures.form c.requires.suffix.size_is in
    rw (c.truncate.ensures, c.len-held.ensures) (shared_undone v (value c.keep_suffixes.new.self) (value c.write_front.new.self) ls
    (share_of ls n c.args.suffix.target) (take c.args.suffix.size c.as_wire-wire.result.now) (kept v ls n) (room (goal.at.returns-in_default-write_front-clause-writes c).Else-not-has_room) c.in-Ok.ensures.ok front
    c.in_default-write_front.ensures.needed c.in_default-write_front.ensures.same)

pub returns-clause-writes : goal.returns-clause-writes
returns-clause-writes c =
    let v = value c.args.self.now in
    let ls = c.args.name.now in
    let n = c.args.suffix.labels in
    let front = front_bytes ls n c.args.suffix.size c.as_wire-wire.result.now c.as_wire-wire.ensures.form c.requires.suffix.size_is in
    let all = kept_front v ls n c.args.suffix.target c.requires.suffix.within in
    let keep = c.in-Ok.ensures.ok in
    let offset : c.keep_suffixes.new.self.offset ≡ v.offset = ap (λ (x : Encoder). x.offset) keep in
    let cut = c.trim.ensures ∙ ap (λ o. candidates_before (o + c.args.suffix.size) c.write_front.new.self.candidates) offset in
    shared_done v (value c.keep_suffixes.new.self) (value c.write_front.new.self) ls (share_of ls n c.args.suffix.target)
    (take c.args.suffix.size c.as_wire-wire.result.now) c.counted-names.result c.args.suffix.size (kept v ls n) c.trim.new.self (room (goal.at.returns-clause-writes c).Else-not-has_room) keep all front
    c.requires.suffix.size_is c.counted-names.ensures c.in-Ok-write_front.ensures.ok cut

use Rattle.std.proofs.Common.{◌≤◌, ◌+◌, ℕ, length, subst, arith}
use Rattle.std.specs.Result.{OnOk}
use Rattle.dnw_write.specs.Encoder.{moved_to}
use Rattle.dnw_write.specs.Emitting.{FillsPlace}
use Rattle.dnw_write.specs.EncoderValue.{value}
use Rattle.dnw_write.proofs.Places.{still_within, fills}
use Rattle.dnw_write.proofs.encoder.place.BinEncoder.emit_at.Goals as goal

pub invariant_of-self-2 : goal.invariant_of-self-2
invariant_of-self-2 g c =
    let p = c.place.inside.start_index in
    let n : ℕ = g.T.EncodedSize.LEN in
    let v = value c.args.self.now in
    let holds : p + n ≤ c.args.self.now.offset = rw c.place.view_is c.requires in
    let within : v.offset ≤ length v.bytes = omega arith in
    record {
      within = omega (
        arith,
        still_within g.T.BinEncodable.emits n g.met.T.EncodedSize.writes_len g.met.T.EncodedSize.fails_unchanged
            c.args.number v (value c.emit-outcome.new.encoder) c.emit-outcome.result p holds within c.emit-outcome.ensures.emits,
      );
    }

pub returns-clause-ok : goal.returns-clause-ok
returns-clause-ok g c =
    let p = c.place.inside.start_index in
    let n : ℕ = g.T.EncodedSize.LEN in
    let v = value c.args.self.now in
    let u = value c.emit-outcome.new.encoder in
    let P : ℕ → Type 0 = λ q. OnOk c.emit-outcome.result (FillsPlace q n v (moved_to u v.offset)) in
    subst P c.place.view_is (fills g.T.BinEncodable.emits n g.met.T.EncodedSize.writes_len c.args.number v u c.emit-outcome.result p c.emit-outcome.ensures.emits)

-- Records are written, or leave nothing.
use Rattle.std.proofs.Common.{◌≡◌, List, [], ◌∷◌, ◌++◌, Ok, Err, refl, sym, subst}
use Rattle.std.specs.Prelude.{OnOk, OnErr}
use Rattle.dns_names_wire.specs.Words.{EmitsRecord, Encoder, InTurn, Outcome, RecordsPrecede, RefusedRecordsUndo, WireRecord, frame_record}
use Rattle.uses.specs.Records.{IsReady}

pub ready_on : RecordsPrecede → (r : WireRecord) (v w : Encoder) → IsReady v → EmitsRecord r v (Ok tt) w → IsReady w
ready_on law r v w ready h = ((frame_record r v (Ok tt) w ready.0 h).ends, law r v w (Ok tt) ready.1 h)

-- a record is written, or nothing is changed
pub whole : RefusedRecordsUndo → RecordsPrecede → (r : WireRecord) (v w : Encoder) (outcome : Outcome) → IsReady v → EmitsRecord r v outcome w
    → OnOk outcome (EmitsRecord r v (Ok tt) w) × OnErr outcome (w ≡ v) × IsReady w
whole undo law r v w (Ok tt) ready h = (h, tt, ready_on law r v w ready h)
whole undo law r v w (Err error) ready h = let same = undo r v w error ready.0 ready.1 h in (tt, same, subst IsReady (sym same) ready)

-- one record more
pub one_more : (v m w : Encoder) (rs : List WireRecord) (r : WireRecord) → InTurn EmitsRecord v rs m → EmitsRecord r m (Ok tt) w
    → InTurn EmitsRecord v (rs ++ r ∷ []) w
one_more v m w [] r all one = (w, subst (λ x. EmitsRecord r x (Ok tt) w) all one, refl)
one_more v m w (x ∷ rs) r all one = (all.0, all.1, one_more all.0 m w rs r all.2 one)

-- Writing an item keeps the frame of `emit`.
use Rattle.std.proofs.Common.{◌≡◌, ◌∷◌, List, [], length, Ok, Err, unwrap_or, inl, inr, sym, subst}
use Rattle.std.specs.Int.{w16, w32, to_be_bytes, cast_unsigned}
use Rattle.dnw_write.specs.Encoder.{Encoder}
use Rattle.dnw_write.specs.Emitting.{Outcome, Frame}
use Rattle.dnw_write.specs.EmittingLaws.{frame, frame_same, frame_text, frames_follow}
use Rattle.dnw_write.specs.NameFrames.{frame_name}
use Rattle.dnw_write_script.specs.RecordFrames.{frame_in_mode}
use Rattle.dnw_write_script.specs.declared.script.Part.{Part}
use Rattle.dnw_write_script.specs.declared.script.Part.TheVariants.{Name, U8, U16, I32, U32, Bytes, Text}
use Rattle.dnw_write_script.specs.declared.script.Item.{Item}
use Rattle.dnw_write_script.specs.Script.{EmitsPart, EmitsParts, EmitsScriptItem, in_own_encoding}

pub frame_part : (part : Part) (v : Encoder) (outcome : Outcome) (w : Encoder) → v.offset ≡ length v.bytes → EmitsPart part v outcome w → Frame v outcome w
frame_part (Name name) v outcome w e h = frame_name name v outcome w e h
frame_part (U8 number) v outcome w e h = frame v (number ∷ []) outcome w e h
frame_part (U16 number) v outcome w e h = frame v (to_be_bytes w16 number) outcome w e h
frame_part (I32 number) v outcome w e h = frame v (to_be_bytes w32 (cast_unsigned w32 number)) outcome w e h
frame_part (U32 number) v outcome w e h = frame v (to_be_bytes w32 number) outcome w e h
frame_part (Bytes bytes) v outcome w e h = frame v bytes.items outcome w e h
frame_part (Text text) v outcome w e h = frame_text v text.items outcome w e h

pub frame_items : (parts : List Part) (v : Encoder) (outcome : Outcome) (w : Encoder) → v.offset ≡ length v.bytes → EmitsParts parts v outcome w → Frame v outcome w
frame_items [] v (Ok tt) w e h = let P : Encoder → Type 0 = λ x. Frame v (Ok tt) x in subst P (sym h) (frame_same v (Ok tt) e)
frame_items [] v (Err error) w e h = absurd h
frame_items (part ∷ parts) v (Ok tt) w e h =
    let first = frame_part part v (Ok tt) h.0 e h.1 in
    frames_follow v h.0 w (Ok tt) e first (frame_items parts h.0 (Ok tt) w first.ends h.2)
frame_items (part ∷ parts) v (Err error) w e h =
    elim h [
      | inl r ↦ frame_part part v (Err error) w e r
      | inr r ↦
          let first = frame_part part v (Ok tt) r.0 e r.1 in
          frames_follow v r.0 w (Err error) e first (frame_items parts r.0 (Err error) w first.ends r.2)
    ]

pub frame_item : (item : Item) (v : Encoder) (outcome : Outcome) (w : Encoder) → v.offset ≡ length v.bytes → EmitsScriptItem item v outcome w → Frame v outcome w
frame_item item v outcome w e h =
    let P : Encoder → Type 0 = λ x. Frame v outcome x in
    let parts = frame_items item.parts.items (in_own_encoding item.encoding v) outcome h.0 e h.1 in
    subst P (sym h.2) (frame_in_mode v (unwrap_or item.encoding v.encoding) outcome h.0 parts)

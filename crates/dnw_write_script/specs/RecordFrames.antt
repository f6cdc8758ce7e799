-- Writing a record keeps the frame of `emit`.
use Rattle.std.proofs.Common.{◌≡◌, ℕ, ◌+◌, ◌-◌, ◌≤◌, List, ◌++◌, length, take, drop, replicate, Ok, Err, inl, inr, refl, sym, ap, ◌∙◌, subst, arith}
use Rattle.std.specs.Int.{w16, to_be_bytes}
use Rattle.std.proofs.lemmas.List.{length-append, length-take, length-replicate, length-drop, length-take-le, take-append-le, take-take}
use Rattle.dnw_base.specs.declared.error.ProtoError.{ProtoError}
use Rattle.dnw_base.specs.declared.error.ProtoError.TheVariants.{MaxBufferSizeExceeded, Memory}
use Rattle.dnw_base.specs.Names.{NameValue}
use Rattle.dnw_write.specs.declared.encoder.modes.NameEncoding.{NameEncoding}
use Rattle.dnw_write.specs.Encoder.{Encoder, TakesRoom, Writes, filled, mode_of_rdata, reserved}
use Rattle.dnw_write.specs.Emitting.{Outcome, Frame}
use Rattle.dnw_write.specs.EmittingLaws.{candidates_before_twice, frame, frame_moved, frame_same, frame_text, frames_follow, take_all_lem}
use Rattle.dnw_write.specs.EmittedName.{EmitsName}
use Rattle.dnw_write.specs.NameFrames.{frame_name}
use Rattle.dnw_write.specs.Marks.{mark_of, rewound}
use Rattle.dnw_write_script.specs.declared.wire_record.WireRecord.{WireRecord}
use Rattle.dnw_write_script.specs.declared.wire_record.WireData.{WireData}
use Rattle.dnw_write_script.specs.declared.wire_record.WireData.TheVariants.{Bytes, Name}
use Rattle.dnw_write_script.specs.Parts.{EmitsSized, EmitsWirePart, Then, WirePart, Write, bytes_part, in_encoding, name_part, text_part}
use Rattle.dnw_write_script.specs.WrittenRecords.{EmitsData, EmitsFields, EmitsInOrder, EmitsRecord, EmitsWhole, NumbersFit, wire_fixed}

-- what writes keep that begin at the buffer's end
abbrev pub KeepsFrame : Write → Type 0
KeepsFrame write = (v : Encoder) (outcome : Outcome) (w : Encoder) → v.offset ≡ length v.bytes → write v outcome w → Frame v outcome w

pub frame_then : (first second : Write) → KeepsFrame first → KeepsFrame second → KeepsFrame (Then first second)
frame_then first second keeps follows v (Ok tt) w e h =
    let one = keeps v (Ok tt) h.0 e h.1 in
    frames_follow v h.0 w (Ok tt) e one (follows h.0 (Ok tt) w one.ends h.2)
frame_then first second keeps follows v (Err error) w e (inl h) = keeps v (Err error) w e h
frame_then first second keeps follows v (Err error) w e (inr h) =
    let one = keeps v (Ok tt) h.0 e h.1 in
    frames_follow v h.0 w (Err error) e one (follows h.0 (Err error) w one.ends h.2)

-- ---- data

-- the mode makes no difference to the frame but for itself
pub frame_in_mode : (v : Encoder) (mode : NameEncoding) (outcome : Outcome) (u : Encoder) → Frame (in_encoding v mode) outcome u
    → Frame v outcome (in_encoding u v.encoding)
frame_in_mode v mode outcome u f =
    record {
      bytes = f.bytes;
      candidates = f.candidates;
      encoding = refl;
      canonical = f.canonical;
      max_size = f.max_size;
      candidate_limit = f.candidate_limit;
      name_limit = f.name_limit;
      ends = f.ends;
    }

pub frame_wire_part : (part : WirePart) (v : Encoder) (outcome : Outcome) (w : Encoder) → v.offset ≡ length v.bytes → EmitsWirePart part v outcome w → Frame v outcome w
frame_wire_part (bytes_part bytes) v outcome w e h = frame v bytes outcome w e h
frame_wire_part (text_part text) v outcome w e h = frame_text v text outcome w e h
frame_wire_part (name_part mode name) v outcome w e h =
    let P : Encoder → Type 0 = λ x. Frame v outcome x in
    subst P (sym h.2) (frame_in_mode v mode outcome h.0 (frame_name name (in_encoding v mode) outcome h.0 e h.1))

pub frame_data : (rdata : WireData) (v : Encoder) (outcome : Outcome) (w : Encoder) → v.offset ≡ length v.bytes → EmitsData rdata v outcome w → Frame v outcome w
frame_data (Bytes bytes) v outcome w e h = frame_wire_part (bytes_part bytes.items) v outcome w e h
frame_data (Name name encoding) v outcome w e h =
    frame_wire_part (name_part (mode_of_rdata encoding v.canonical v.encoding) name) v outcome w e h

-- ---- the length

pub frame_reserved : (v : Encoder) → v.offset ≡ length v.bytes → Frame v (Ok tt) (reserved v 2)
frame_reserved v e =
    let zeros = replicate {A = ℕ} (v.offset + 2 - length v.bytes) 0 in
    let front = take (v.offset + 2) v.bytes in
    let le : v.offset ≤ length front = omega (arith, e, length-take (v.offset + 2) v.bytes) in
    let same : take v.offset (front ++ zeros) ≡ v.bytes =
    take-append-le v.offset front zeros le ∙ (take-take v.offset (v.offset + 2) v.bytes (omega arith) ∙ take_all_lem v.offset v.bytes e) in
    frame_moved v (Ok tt) _ _ v.candidates v.names same refl
    (omega (arith, e, length-append front zeros, length-take (v.offset + 2) v.bytes, length-replicate {A = ℕ} (v.offset + 2 - length v.bytes) 0))

-- filling two octets after the start keeps the frame
frame_filled : (v u : Encoder) (two : List ℕ) → length two ≡ 2 → Frame v (Ok tt) u → v.offset + 2 ≤ u.offset → Frame v (Ok tt) (filled u v.offset two)
frame_filled v u two size f le =
    let o = v.offset in
    let behind = two ++ drop (o + length two) u.bytes in
    let long : o ≤ length u.bytes = omega (arith, le, f.ends) in
    let front : o ≤ length (take o u.bytes) = omega (arith, length-take-le o u.bytes long) in
    let over : length (take o u.bytes ++ behind) ≡ length u.bytes =
    omega (arith, le, f.ends, size, length-append (take o u.bytes) behind, length-append two (drop (o + length two) u.bytes), length-drop (o + length two) u.bytes, length-take-le o u.bytes long) in
    record {
      bytes = take-append-le o (take o u.bytes) behind front ∙ (take-take o o u.bytes (omega arith) ∙ f.bytes);
      candidates = f.candidates;
      encoding = f.encoding;
      canonical = f.canonical;
      max_size = f.max_size;
      candidate_limit = f.candidate_limit;
      name_limit = f.name_limit;
      ends = f.ends ∙ sym over;
    }

-- what follows a frame is no shorter
pub frame_grows : (v u : Encoder) (outcome : Outcome) → v.offset ≡ length v.bytes → Frame v outcome u → v.offset ≤ length u.bytes
frame_grows v u outcome e f = omega (arith, e, ap length f.bytes, length-take v.offset u.bytes)

frame_room : (v : Encoder) (error : ProtoError) (w : Encoder) → v.offset ≡ length v.bytes → TakesRoom {A = Unit {0}} v 2 (reserved v 2) (Err error) w → Frame v (Err error) w
frame_room v Memory w e h = let P : Encoder → Type 0 = λ x. Frame v (Err Memory) x in subst P (sym h.2) (frame_same v (Err Memory) e)
frame_room v (MaxBufferSizeExceeded size) w e h =
    let P : Encoder → Type 0 = λ x. Frame v (Err (MaxBufferSizeExceeded size)) x in
    subst P (sym h.2) (frame_same v (Err (MaxBufferSizeExceeded size)) e)
frame_room v error w e h = absurd h

pub frame_sized : (write : Write) → KeepsFrame write → KeepsFrame (EmitsSized write)
frame_sized write keeps v (Ok tt) w e (room, u, one, is) =
    let first = frame_reserved v e in
    let second = keeps (reserved v 2) (Ok tt) u first.ends one in
    let both = frames_follow v (reserved v 2) u (Ok tt) e first second in
    let le : v.offset + 2 ≤ u.offset = omega (arith, second.ends, frame_grows (reserved v 2) u (Ok tt) first.ends second) in
    let P : Encoder → Type 0 = λ x. Frame v (Ok tt) x in
    subst P (sym is) (frame_filled v u (to_be_bytes w16 (u.offset - (v.offset + 2))) refl both le)
frame_sized write keeps v (Err error) w e (inl h) = frame_room v error w e h
frame_sized write keeps v (Err error) w e (inr h) =
    let first = frame_reserved v e in
    frames_follow v (reserved v 2) w (Err error) e first (keeps (reserved v 2) (Err error) w first.ends h.1)

-- ---- records

pub frame_in_order : (owner : NameValue) (fixed : List ℕ) (write : Write) → KeepsFrame write → KeepsFrame (EmitsInOrder owner fixed write)
frame_in_order owner fixed write keeps =
    let octets : KeepsFrame (λ v. Writes v fixed) = λ v outcome w e h. frame v fixed outcome w e h in
    let last = frame_then (λ v. Writes v fixed) (EmitsSized write) octets (frame_sized write keeps) in
    frame_then (EmitsName owner) _ (λ v outcome w e h. frame_name owner v outcome w e h) last

pub frame_rewound : (v u : Encoder) (error : ProtoError) → Frame v (Err error) u → Frame v (Err error) (rewound u (mark_of v))
frame_rewound v u error f =
    record {
      bytes = take-take v.offset v.offset u.bytes (omega arith) ∙ f.bytes;
      candidates = candidates_before_twice v.offset v.offset u.candidates (omega arith) ∙ f.candidates;
      encoding = f.encoding;
      canonical = f.canonical;
      max_size = f.max_size;
      candidate_limit = f.candidate_limit;
      name_limit = f.name_limit;
      ends = tt;
    }

pub frame_whole : (Fit : Type 0) (fields : Write) → KeepsFrame fields → KeepsFrame (EmitsWhole Fit fields)
frame_whole Fit fields keeps v (Ok tt) w e h = keeps v (Ok tt) w e h.1
frame_whole Fit fields keeps v (Err error) w e (u, written, is) =
    let P : Encoder → Type 0 = λ x. Frame v (Err error) x in
    subst P (sym is) (frame_rewound v u error (keeps v (Err error) u e written))

pub frame_fields : (r : WireRecord) → KeepsFrame (EmitsFields r)
frame_fields r = frame_in_order r.owner (wire_fixed r) (EmitsData r.rdata) (frame_data r.rdata)

pub frame_record : (r : WireRecord) (v : Encoder) (outcome : Outcome) (w : Encoder) → v.offset ≡ length v.bytes → EmitsRecord r v outcome w → Frame v outcome w
frame_record r = frame_whole (NumbersFit r) (EmitsFields r) (frame_fields r)

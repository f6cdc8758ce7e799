-- Parts and items of a script are parts of a message.
use Rattle.std.proofs.Common.{◌≡◌, ℕ, List, [], ◌∷◌, length, map, Ok, Err, unwrap_or, inl, inr, refl, sym, ap, ◌∙◌, subst, arith}
use Rattle.std.specs.Int.{w16, w32, to_be_bytes, cast_unsigned}
use Rattle.dnw_base.specs.declared.error.ProtoError.TheVariants.{CharacterDataTooLong, Memory}
use Rattle.dnw_write.specs.declared.encoder.modes.NameEncoding.{NameEncoding}
use Rattle.dnw_write.specs.Encoder.{Encoder, Writes, WritesText}
use Rattle.dnw_write.specs.Emitting.{Outcome, InTurn}
use Rattle.dnw_write_script.specs.Parts.{EmitsWirePart, EmitsWireParts, in_encoding}
use Rattle.dnw_write_script.proofs.Parts.{parts_follow}
use Rattle.dnw_write_script.specs.declared.script.Part.{Part}
use Rattle.dnw_write_script.specs.declared.script.Part.TheVariants.{Name, U8, U16, I32, U32, Bytes, Text}
use Rattle.dnw_write_script.specs.declared.script.Item.{Item}
use Rattle.dnw_write_script.specs.Script.{EmitsPart, EmitsParts, EmitsScriptItem, item_parts, items_parts, wire_part}
use Rattle.dnw_write_script.specs.ItemFrames.{frame_item, frame_part}

-- the mode makes no difference to bytes
bytes_in : (mode : NameEncoding) (d : List ℕ) (v m : Encoder) (outcome : Outcome) → Writes (in_encoding v mode) d outcome m
    → Writes v d outcome (in_encoding m v.encoding)
bytes_in mode d v m (Ok tt) h = (h.0, ap (λ (x : Encoder). in_encoding x v.encoding) h.1)
bytes_in mode d v m (Err Memory) h = grind (arith, λ (e : m ≡ in_encoding v mode). ap (λ (x : Encoder). in_encoding x v.encoding) e)
bytes_in mode d v m (Err error) h = grind (arith, λ (e : m ≡ in_encoding v mode). ap (λ (x : Encoder). in_encoding x v.encoding) e)

text_in : (mode : NameEncoding) (d : List ℕ) (v m : Encoder) (outcome : Outcome) → WritesText (in_encoding v mode) d outcome m
    → WritesText v d outcome (in_encoding m v.encoding)
text_in mode d v m (Err (CharacterDataTooLong max size)) h = (h.0, h.1, h.2, ap (λ (x : Encoder). in_encoding x v.encoding) h.3)
text_in mode d v m outcome h = (h.0, bytes_in mode (length d ∷ d) v m outcome h.1)

as_part : (mode : NameEncoding) (part : Part) (v m : Encoder) (outcome : Outcome) → EmitsPart part (in_encoding v mode) outcome m
    → EmitsWirePart (wire_part mode part) v outcome (in_encoding m v.encoding)
as_part mode (Name name) v m outcome h = (m, h, refl)
as_part mode (U8 number) v m outcome h = bytes_in mode (number ∷ []) v m outcome h
as_part mode (U16 number) v m outcome h = bytes_in mode (to_be_bytes w16 number) v m outcome h
as_part mode (I32 number) v m outcome h = bytes_in mode (to_be_bytes w32 (cast_unsigned w32 number)) v m outcome h
as_part mode (U32 number) v m outcome h = bytes_in mode (to_be_bytes w32 number) v m outcome h
as_part mode (Bytes bytes) v m outcome h = bytes_in mode bytes.items v m outcome h
as_part mode (Text text) v m outcome h = text_in mode text.items v m outcome h

-- an encoder in its own mode
own : (mode : NameEncoding) (w : Encoder) → w.encoding ≡ mode → in_encoding w mode ≡ w
own mode w same = ap (λ (m : NameEncoding). in_encoding w m) (sym same)

-- a part in the mode in force
pub as_wire_part : (part : Part) (v w : Encoder) (outcome : Outcome) → v.offset ≡ length v.bytes → EmitsPart part v outcome w
    → EmitsWirePart (wire_part v.encoding part) v outcome w
as_wire_part part v w outcome e h =
    subst (EmitsWirePart (wire_part v.encoding part) v outcome) (own v.encoding w (frame_part part v outcome w e h).encoding) (as_part v.encoding part v w outcome h)

as_parts : (mode : NameEncoding) (parts : List Part) (v u : Encoder) (outcome : Outcome) → v.offset ≡ length v.bytes
    → EmitsParts parts (in_encoding v mode) outcome u → EmitsWireParts (map (wire_part mode) parts) v outcome (in_encoding u v.encoding)
as_parts mode [] v u (Ok tt) e h = ap (λ (x : Encoder). in_encoding x v.encoding) h
as_parts mode [] v u (Err error) e h = absurd h
as_parts mode (part ∷ parts) v u (Ok tt) e (m, one, more) =
    let f = frame_part part (in_encoding v mode) (Ok tt) m e one in
    (in_encoding m v.encoding, as_part mode part v m (Ok tt) one, as_parts mode parts _ u (Ok tt) f.ends (rw (own mode m f.encoding) more))
as_parts mode (part ∷ parts) v u (Err error) e (inl one) = inl (as_part mode part v u (Err error) one)
as_parts mode (part ∷ parts) v u (Err error) e (inr (m, one, more)) =
    let f = frame_part part (in_encoding v mode) (Ok tt) m e one in
    inr (in_encoding m v.encoding, as_part mode part v m (Ok tt) one, as_parts mode parts _ u (Err error) f.ends (rw (own mode m f.encoding) more))

pub as_item_parts : (item : Item) (v w : Encoder) (outcome : Outcome) → v.offset ≡ length v.bytes → EmitsScriptItem item v outcome w
    → EmitsWireParts (item_parts v.encoding item) v outcome w
as_item_parts item v w outcome e (u, h, is) =
    subst (EmitsWireParts (item_parts v.encoding item) v outcome) (sym is) (as_parts (unwrap_or item.encoding v.encoding) item.parts.items v u outcome e h)

pub as_items_parts : (mode : NameEncoding) (items : List Item) (v w : Encoder) → v.offset ≡ length v.bytes → v.encoding ≡ mode
    → InTurn EmitsScriptItem v items w → EmitsWireParts (items_parts mode items) v (Ok tt) w
as_items_parts mode [] v w e same h = h
as_items_parts mode (item ∷ items) v w e same (m, one, more) =
    let f = frame_item item v (Ok tt) m e one in
    let first = subst (λ x. EmitsWireParts (item_parts x item) v (Ok tt) m) same (as_item_parts item v m (Ok tt) e one) in
    parts_follow (item_parts mode item) (items_parts mode items) v m w (Ok tt) first (as_items_parts mode items m w f.ends (f.encoding ∙ same) more)

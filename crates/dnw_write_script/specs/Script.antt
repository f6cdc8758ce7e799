-- What a script is made of, and what its parts and items write.
use Rattle.std.specs.Prelude.{◌≡◌, ℕ, ◌∷◌, Bool, List, [], map, Option, Ok, Err, unwrap_or, ◌⊎◌}
use Rattle.std.specs.List.{flat_map}
use Rattle.std.specs.Int.{w16, w32, to_be_bytes, cast_unsigned}
use Rattle.dnw_write.specs.declared.encoder.modes.NameEncoding.{NameEncoding}
use Rattle.dnw_write.specs.Encoder.{Encoder, Writes, WritesText}
use Rattle.dnw_write.specs.Emitting.{Emits}
use Rattle.dnw_write.specs.EmittedName.{EmitsName}
use Rattle.dnw_write_script.specs.Parts.{WirePart, bytes_part, name_part, text_part}
use Rattle.dnw_write_script.specs.declared.wire_record.WireRecord.{WireRecord}
use Rattle.dnw_write_script.specs.declared.script.Part.{Part}
use Rattle.dnw_write_script.specs.declared.script.Part.TheVariants.{Name, U8, U16, I32, U32, Bytes, Text}
use Rattle.dnw_write_script.specs.declared.script.Item.{Item}
use Rattle.dnw_write_script.specs.declared.script.Step.{Step}
use Rattle.dnw_write_script.specs.declared.script.Step.TheVariants as step

-- What a step does: seven kinds of steps write a part.
pub data Action : Type 0 where
  write : Part → Action
  set_max : ℕ → Action
  set_encoding : NameEncoding → Action
  set_canonical : Bool → Action
  reserve : Action
  fill : ℕ → ℕ → Action
  write_record : WireRecord → Action
  write_items : List Item → Action

abbrev pub action : Step → Action
action (step.Name name) = write (Name name)
action (step.U8 number) = write (U8 number)
action (step.U16 number) = write (U16 number)
action (step.I32 number) = write (I32 number)
action (step.U32 number) = write (U32 number)
action (step.Bytes bytes) = write (Bytes bytes)
action (step.Text text) = write (Text text)
action (step.Max size) = set_max size
action (step.Encoding mode) = set_encoding mode
action (step.Canonical canonical) = set_canonical canonical
action step.Reserve = reserve
action (step.Fill place value) = fill place value
action (step.Record r) = write_record r
action (step.Items items) = write_items items.items

abbrev pub EmitsPart : Emits Part
EmitsPart (Name name) v outcome w = EmitsName name v outcome w
EmitsPart (U8 number) v outcome w = Writes v (number ∷ []) outcome w
EmitsPart (U16 number) v outcome w = Writes v (to_be_bytes w16 number) outcome w
EmitsPart (I32 number) v outcome w = Writes v (to_be_bytes w32 (cast_unsigned w32 number)) outcome w
EmitsPart (U32 number) v outcome w = Writes v (to_be_bytes w32 number) outcome w
EmitsPart (Bytes bytes) v outcome w = Writes v bytes.items outcome w
EmitsPart (Text text) v outcome w = WritesText v text.items outcome w

-- The parts are written in turn, up to the first that fails.
abbrev pub EmitsParts : Emits (List Part)
EmitsParts [] v (Ok done) w = w ≡ v
EmitsParts [] v (Err error) w = ⊥
EmitsParts (part ∷ parts) v (Ok done) w = (m : Encoder) × EmitsPart part v (Ok tt) m × EmitsParts parts m (Ok tt) w
EmitsParts (part ∷ parts) v (Err error) w =
    EmitsPart part v (Err error) w ⊎ ((m : Encoder) × EmitsPart part v (Ok tt) m × EmitsParts parts m (Err error) w)

-- in an item's own mode if it has one, or the mode in force
abbrev pub in_own_encoding : Option NameEncoding → Encoder → Encoder
in_own_encoding own v = record v { encoding = unwrap_or own v.encoding }

-- An item's parts are written in its mode, and the former mode put back.
abbrev pub EmitsScriptItem : Emits Item
EmitsScriptItem item v outcome w =
    (u : Encoder) × EmitsParts item.parts.items (in_own_encoding item.encoding v) outcome u × (w ≡ record u { encoding = v.encoding })

-- ---- as parts of a message

-- the part of a message that a part is, by the mode in force
abbrev pub wire_part : NameEncoding → Part → WirePart
wire_part mode (Name name) = name_part mode name
wire_part mode (U8 number) = bytes_part (number ∷ [])
wire_part mode (U16 number) = bytes_part (to_be_bytes w16 number)
wire_part mode (I32 number) = bytes_part (to_be_bytes w32 (cast_unsigned w32 number))
wire_part mode (U32 number) = bytes_part (to_be_bytes w32 number)
wire_part mode (Bytes bytes) = bytes_part bytes.items
wire_part mode (Text text) = text_part text.items

-- those that an item is, in its own mode if it has one
abbrev pub item_parts : NameEncoding → Item → List WirePart
item_parts mode item = map (wire_part (unwrap_or item.encoding mode)) item.parts.items

abbrev pub items_parts : NameEncoding → List Item → List WirePart
items_parts mode items = flat_map (item_parts mode) items

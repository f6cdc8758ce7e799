-- Parts of a message: how they are written one after the other, and after the number of their octets.
use Rattle.std.specs.Prelude.{◌≡◌, ℕ, suc, ◌+◌, ◌-◌, List, [], ◌∷◌, length, Ok, Err, ◌⊎◌}
use Rattle.std.specs.Int.{w16, to_be_bytes}
use Rattle.dnw_base.specs.Names.{NameValue, encoded_size}
use Rattle.dnw_write.specs.declared.encoder.modes.NameEncoding.{NameEncoding}
use Rattle.dnw_write.specs.Encoder.{Encoder, HasRoom, TakesRoom, Writes, WritesText, filled, reserved}
use Rattle.dnw_write.specs.Emitting.{Outcome, Emits}
use Rattle.dnw_write.specs.EmittedName.{EmitsName}

-- A part of a message: a name in a mode, bytes, or character data.
pub data WirePart : Type 0 where
  name_part : NameEncoding → NameValue → WirePart
  bytes_part : List ℕ → WirePart
  text_part : List ℕ → WirePart

-- what a write makes of an encoder
abbrev pub Write : Type 1
Write = Encoder → Outcome → Encoder → Type 0

-- The second write follows the first, unless that fails.
abbrev pub Then : Write → Write → Encoder → Outcome → Encoder → Type 0
Then first second v (Ok done) w = (m : Encoder) × first v (Ok tt) m × second m (Ok tt) w
Then first second v (Err error) w = first v (Err error) w ⊎ ((m : Encoder) × first v (Ok tt) m × second m (Err error) w)

abbrev pub in_encoding : Encoder → NameEncoding → Encoder
in_encoding v mode = record v { encoding = mode }

-- A name is written in its mode, and the former mode put back.
abbrev pub EmitsWirePart : Emits WirePart
EmitsWirePart (name_part mode name) v outcome w =
    (u : Encoder) × EmitsName name (in_encoding v mode) outcome u × (w ≡ in_encoding u v.encoding)
EmitsWirePart (bytes_part bytes) v outcome w = Writes v bytes outcome w
EmitsWirePart (text_part text) v outcome w = WritesText v text outcome w

-- Parts are written in turn, up to the first that fails.
abbrev pub EmitsWireParts : Emits (List WirePart)
EmitsWireParts [] v (Ok done) w = w ≡ v
EmitsWireParts [] v (Err error) w = ⊥
EmitsWireParts (part ∷ parts) v (Ok done) w = (m : Encoder) × EmitsWirePart part v (Ok tt) m × EmitsWireParts parts m (Ok tt) w
EmitsWireParts (part ∷ parts) v (Err error) w =
    EmitsWirePart part v (Err error) w ⊎ ((m : Encoder) × EmitsWirePart part v (Ok tt) m × EmitsWireParts parts m (Err error) w)

-- the length at an offset: the number of octets from after it to the encoder's offset
abbrev pub with_length : Encoder → ℕ → Encoder
with_length v place = filled v place (to_be_bytes w16 (v.offset - (place + 2)))

-- A length is reserved, then something is written, and the length of that is filled in.
abbrev pub EmitsSized : Write → Encoder → Outcome → Encoder → Type 0
EmitsSized write v (Ok done) w = HasRoom v 2 × (u : Encoder) × write (reserved v 2) (Ok tt) u × (w ≡ with_length u v.offset)
EmitsSized write v (Err error) w =
    TakesRoom {A = Unit {0}} v 2 (reserved v 2) (Err error) w ⊎ (HasRoom v 2 × write (reserved v 2) (Err error) w)

-- Parts are written, and then others after the number of their octets, up to the first write that fails.
abbrev pub EmitsCounted : List WirePart → List WirePart → Write
EmitsCounted front back = Then (EmitsWireParts front) (EmitsSized (EmitsWireParts back))

-- ---- sizes

-- the bytes of a part with its name whole
abbrev pub wire_size : WirePart → ℕ
wire_size (name_part mode name) = encoded_size name.labels
wire_size (bytes_part bytes) = length bytes
wire_size (text_part text) = suc (length text)

abbrev pub parts_size : List WirePart → ℕ
parts_size [] = 0
parts_size (part ∷ parts) = wire_size part + parts_size parts

-- a part is a text of so many bytes
abbrev pub IsTextOfSize : ℕ → WirePart → Type 0
IsTextOfSize n (text_part text) = length text ≡ n
IsTextOfSize n part = ⊥

-- one of the parts is
abbrev pub HasTextOfSize : ℕ → List WirePart → Type 0
HasTextOfSize n [] = ⊥
HasTextOfSize n (part ∷ parts) = IsTextOfSize n part ⊎ HasTextOfSize n parts

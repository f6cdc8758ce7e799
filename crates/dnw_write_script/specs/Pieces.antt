-- What a script writes, as its steps and replies alone say, and what it means that a message has it.
use Rattle.std.specs.Prelude.{◌≡◌, ℕ, zero, suc, ◌+◌, ◌-◌, ◌≤◌, Bool, true, false, List, [], ◌∷◌, ◌++◌, length, map, take, slice_range}
use Rattle.std.specs.Int.{w16, to_be_bytes}
use Rattle.dnw_write.specs.declared.encoder.modes.NameEncoding.{NameEncoding}
use Rattle.dnw_write.specs.declared.encoder.modes.NameEncoding.TheVariants.{Compressed}
use Rattle.dnw_write.specs.Encoder.{mode_of_rdata}
use Rattle.dnw_write.specs.EmittedName.{in_mode, is_compressed}
use Rattle.dnw_base.specs.RecordTypes.{type_code}
use Rattle.dnw_base.specs.DnsClasses.{class_code}
use Rattle.dnw_base.specs.Limits.{max_message}
use Rattle.dnw_base.specs.Names.{encoded_size}
use Rattle.dnw_name_read.specs.Reading.{NameAt}
use Rattle.dnw_write_script.specs.declared.wire_record.WireRecord.{WireRecord}
use Rattle.dnw_write_script.specs.declared.wire_record.WireData.{WireData}
use Rattle.dnw_write_script.specs.declared.wire_record.WireData.TheVariants as rdata
use Rattle.dnw_write_script.specs.Parts.{WirePart, bytes_part, name_part, text_part}
use Rattle.dnw_record.specs.Records.{fixed_size}
use Rattle.dnw_write_script.specs.RecordLaws.{fixed_and_length}
use Rattle.dnw_write_script.specs.WrittenRecords.{NumbersFit}
use Rattle.dnw_write_script.specs.declared.script.Reply.{Reply}
use Rattle.dnw_write_script.specs.declared.script.Reply.TheVariants.{Done, Refused, Items}
use Rattle.dnw_write_script.specs.Script.{Action, write, set_max, set_encoding, set_canonical, reserve, fill, write_record, write_items, items_parts, wire_part}

-- ---- pieces

-- A piece of a message: a name that is written in a mode, other bytes, a placeholder with its value, or a record whose names
-- are written by a mode, in canonical form or not. Placeholders are numbered from 0, in their order.
pub data Piece : Type 0 where
  name_piece : NameEncoding → List (List ℕ) → Piece
  bytes_piece : List ℕ → Piece
  place_piece : ℕ → Piece
  record_piece : NameEncoding → Bool → WireRecord → Piece

-- From p to e a name is read, as its mode writes it: in no more bytes than its wire form, and in a mode without
-- compression in just as many.
abbrev pub NameStands : List ℕ → NameEncoding → List (List ℕ) → ℕ → ℕ → Type 0
NameStands b mode labels p e =
    (pointers : ℕ) × NameAt b p (in_mode mode labels) e pointers × (e ≤ p + encoded_size labels)
    × (is_compressed mode ≡ false → e ≡ p + encoded_size labels)

-- Other bytes are there as they are.
abbrev pub BytesStand : List ℕ → List ℕ → ℕ → ℕ → Type 0
BytesStand b bytes p e = (slice_range b p e ≡ bytes) × (e ≡ p + length bytes) × (e ≤ length b)

-- The data of a record are bytes, or a name in the mode for such data.
abbrev pub DataStand : List ℕ → NameEncoding → Bool → WireData → ℕ → ℕ → Type 0
DataStand b mode canonical (rdata.Bytes bytes) p e = BytesStand b bytes.items p e
DataStand b mode canonical (rdata.Name name encoding) p e = NameStands b (mode_of_rdata encoding canonical mode) name.labels p e

-- A record is there from p to e (RFC 1035, section 4.1.3): its owner, its type, class, time to live and the number of octets
-- of its data, and the data up to e. It ends within the size of a message, so two octets hold that number, and its other
-- numbers fit their fields too.
pub record RecordStands (b : List ℕ) (mode : NameEncoding) (canonical : Bool) (r : WireRecord) (p e : ℕ) : Type 0 where
  pub owner_end : ℕ
  pub owner : NameStands b mode r.owner.labels p owner_end
  pub fields : BytesStand b (fixed_and_length (type_code r.record_type) (class_code r.class) r.ttl (e - (owner_end + fixed_size))) owner_end (owner_end + fixed_size)
  pub rdata : DataStand b mode canonical r.rdata (owner_end + fixed_size) e
  pub few : e ≤ max_message
  pub fit : NumbersFit r

-- the piece is there from p to e
abbrev pub PieceAt : List ℕ → Piece → ℕ → ℕ → Type 0
PieceAt b (name_piece mode labels) p e = NameStands b mode labels p e
PieceAt b (bytes_piece bytes) p e = BytesStand b bytes p e
PieceAt b (place_piece value) p e = BytesStand b (to_be_bytes w16 value) p e
PieceAt b (record_piece mode canonical r) p e = RecordStands b mode canonical r p e

-- the pieces are there from p to q, one after the other
abbrev pub PiecesLie : List ℕ → List Piece → ℕ → ℕ → Type 0
PiecesLie b [] p q = p ≡ q
PiecesLie b (piece ∷ pieces) p q = (e : ℕ) × PieceAt b piece p e × PiecesLie b pieces e q

-- ---- the account of a script

-- a placeholder: the offset after it, and whether it may still be filled
pub record Slot : Type 0 where
  pub end : ℕ
  pub is_open : Bool

-- what steps and replies say: the length of the buffer, the maximum and the mode in force, whether record data are in
-- canonical form, the pieces, the placeholders
pub record Account : Type 0 where
  pub len : ℕ
  pub max : ℕ
  pub mode : NameEncoding
  pub canonical : Bool
  pub pieces : List Piece
  pub places : List Slot

abbrev pub opening : ℕ → Account
opening len = record { len = len; max = max_message; mode = Compressed; canonical = false; pieces = []; places = [] }

abbrev pub with_pieces : Account → List Piece → ℕ → Account
with_pieces a pieces len = record a { len = len; pieces = a.pieces ++ pieces }

abbrev pub wire_piece : WirePart → Piece
wire_piece (name_part mode name) = name_piece mode name.labels
wire_piece (bytes_part bytes) = bytes_piece bytes
wire_piece (text_part text) = bytes_piece (length text ∷ text)

-- the pieces, with this value in the placeholder of this number
abbrev pub filled_in : List Piece → ℕ → ℕ → List Piece
filled_in [] number value = []
filled_in (place_piece old ∷ pieces) zero value = place_piece value ∷ pieces
filled_in (place_piece old ∷ pieces) (suc number) value = place_piece old ∷ filled_in pieces number value
filled_in (piece ∷ pieces) number value = piece ∷ filled_in pieces number value

-- the placeholders, the one of this number used up
abbrev pub spent : ℕ → List Slot → List Slot
spent number [] = []
spent zero (slot ∷ slots) = record { end = slot.end; is_open = false } ∷ slots
spent (suc number) (slot ∷ slots) = slot ∷ spent number slots

-- one more step and its reply
abbrev pub after_action : Account → Action → Reply → Account
after_action a (write p) (Done len) = with_pieces a (wire_piece (wire_part a.mode p) ∷ []) len
after_action a (set_max size) (Done len) = record a { max = size }
after_action a (set_encoding mode) (Done len) = record a { mode = mode }
after_action a (set_canonical canonical) (Done len) = record a { canonical = canonical }
after_action a reserve (Done len) = record a {
  len = len;
  pieces = a.pieces ++ place_piece 0 ∷ [];
  places = a.places ++ (record { end = len; is_open = true }) ∷ [];
}
after_action a (fill place value) (Done len) = record a { pieces = filled_in a.pieces place value; places = spent place a.places }
after_action a (fill place value) (Refused error len) = record a { places = spent place a.places }
after_action a (write_record r) (Done len) = with_pieces a (record_piece a.mode a.canonical r ∷ []) len
after_action a (write_items items) (Items count error len) = with_pieces a (map wire_piece (items_parts a.mode (take count items))) len
after_action a action reply = a

-- what the steps and replies say, from an account on
abbrev pub account_from : Account → List Action → List Reply → Account
account_from a [] replies = a
account_from a (action ∷ actions) [] = a
account_from a (action ∷ actions) (reply ∷ replies) = account_from (after_action a action reply) actions replies

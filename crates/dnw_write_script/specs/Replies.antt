-- The reply to each step of a script, by what the steps and replies before it say.
use Rattle.std.specs.Prelude.{◌≡◌, ℕ, zero, suc, ◌+◌, ◌<◌, ◌≤◌, max, if◌then◌else◌, List, [], ◌∷◌, length, take, drop, Option, Some, None}
use Rattle.dnw_base.specs.declared.error.ProtoError.{ProtoError}
use Rattle.dnw_base.specs.declared.error.ProtoError.TheVariants.{CharacterDataTooLong, MaxBufferSizeExceeded, NotAllRecordsWritten, Memory}
use Rattle.dnw_base.specs.Limits.{max_character_data}
use Rattle.dnw_base.specs.Names.{encoded_size}
use Rattle.dnw_write_script.specs.Parts.{HasTextOfSize, WirePart, bytes_part, name_part, parts_size, text_part}
use Rattle.dnw_write_script.specs.RecordLaws.{record_size}
use Rattle.dnw_write_script.specs.declared.script.Item.{Item}
use Rattle.dnw_write_script.specs.declared.script.Reply.{Reply}
use Rattle.dnw_write_script.specs.declared.script.Reply.TheVariants.{Done, Refused, NoPlace, Items}
use Rattle.dnw_write_script.specs.Script.{Action, write, set_max, set_encoding, set_canonical, reserve, fill, write_record, write_items, item_parts, items_parts, wire_part}
use Rattle.dnw_write_script.specs.Pieces.{Account, Slot, after_action}

-- n bytes are written if they fit, unless memory runs out
abbrev pub ReplyToBytes : Account → ℕ → Reply → Type 0
ReplyToBytes a n (Done len) = (a.len + n ≤ a.max) × (len ≡ a.len + n)
ReplyToBytes a n (Refused (MaxBufferSizeExceeded max) len) = (a.max < a.len + n) × (max ≡ a.max) × (len ≡ a.len)
ReplyToBytes a n (Refused Memory len) = (a.len + n ≤ a.max) × (len ≡ a.len)
ReplyToBytes a n reply = ⊥

-- A name is written if its wire form fits, in no more bytes than that and never past the maximum, and refused if not even
-- its labels fit.
abbrev pub ReplyToName : Account → ℕ → Reply → Type 0
ReplyToName a size (Done len) = (a.len + size ≤ a.max + 1) × (len ≤ a.len + size) × (len ≤ a.max)
ReplyToName a size (Refused (MaxBufferSizeExceeded max) len) = (a.max < a.len + size) × (max ≡ a.max) × (len ≡ a.len)
ReplyToName a size (Refused Memory len) = (a.len + size ≤ a.max + 1) × (len ≡ a.len)
ReplyToName a size reply = ⊥

-- character data of at most 255 bytes is written with its length octet, as other bytes are
abbrev pub ReplyToText : Account → ℕ → Reply → Type 0
ReplyToText a n (Refused (CharacterDataTooLong max size) len) =
    (max_character_data < n) × (max ≡ max_character_data) × (size ≡ n) × (len ≡ a.len)
ReplyToText a n reply = (n ≤ max_character_data) × ReplyToBytes a (suc n) reply

abbrev pub ReplyToPart : Account → WirePart → Reply → Type 0
ReplyToPart a (name_part mode name) reply = ReplyToName a (encoded_size name.labels) reply
ReplyToPart a (bytes_part bytes) reply = ReplyToBytes a (length bytes) reply
ReplyToPart a (text_part text) reply = ReplyToText a (length text) reply

abbrev pub Stays : Account → Reply → Type 0
Stays a (Done len) = len ≡ a.len
Stays a reply = ⊥

-- the end of the placeholder of this number, if it may still be filled
abbrev pub open_place : ℕ → List Slot → Option ℕ
open_place number [] = None
open_place zero (slot ∷ slots) = if slot.is_open then Some slot.end else None
open_place (suc number) (slot ∷ slots) = open_place number slots

-- A placeholder that is open is filled if it ends within the maximum.
abbrev pub ReplyToFill : Account → Option ℕ → Reply → Type 0
ReplyToFill a None reply = reply ≡ NoPlace
ReplyToFill a (Some end) (Done len) = (end ≤ a.max) × (len ≡ a.len)
ReplyToFill a (Some end) (Refused (MaxBufferSizeExceeded max) len) = (a.max < end) × (max ≡ a.max) × (len ≡ a.len)
ReplyToFill a (Some end) reply = ⊥

-- A record is written if it fits with its names whole, in no more bytes than that and never past the maximum. If it is
-- refused, the length stays.
abbrev pub ReplyToRecord : Account → ℕ → Reply → Type 0
ReplyToRecord a size (Done len) = (len ≤ a.max) × (len ≤ a.len + size)
ReplyToRecord a size (Refused (MaxBufferSizeExceeded max) len) = (a.max < a.len + size) × (max ≡ a.max) × (len ≡ a.len)
ReplyToRecord a size (Refused Memory len) = len ≡ a.len
ReplyToRecord a size reply = ⊥

-- why the item after so many others, which begins at the length, is refused
abbrev pub ItemFails : Account → ℕ → ℕ → List Item → ProtoError → Type 0
ItemFails a count len [] error = ⊥
ItemFails a count len (item ∷ items) (NotAllRecordsWritten before) = (before ≡ count) × (a.max < len + parts_size (item_parts a.mode item))
ItemFails a count len (item ∷ items) (CharacterDataTooLong max n) =
    (max ≡ max_character_data) × (max_character_data < n) × HasTextOfSize n (item_parts a.mode item)
ItemFails a count len (item ∷ items) Memory = Unit {0}
ItemFails a count len (item ∷ items) error = ⊥

-- The first items are written, in no more bytes than with their names whole and never past the maximum: all of them, or all
-- up to a refused one.
abbrev pub ReplyToItems : Account → List Item → Reply → Type 0
ReplyToItems a items (Items count None len) =
    (count ≡ length items) × (len ≤ a.len + parts_size (items_parts a.mode items)) × (len ≤ max a.len a.max)
ReplyToItems a items (Items count (Some error) len) =
    (count < length items) × (len ≤ a.len + parts_size (items_parts a.mode (take count items))) × (len ≤ max a.len a.max)
    × ItemFails a count len (drop count items) error
ReplyToItems a items reply = ⊥

abbrev pub ReplyTo : Account → Action → Reply → Type 0
ReplyTo a (write part) reply = ReplyToPart a (wire_part a.mode part) reply
ReplyTo a (set_max size) reply = Stays a reply
ReplyTo a (set_encoding mode) reply = Stays a reply
ReplyTo a (set_canonical canonical) reply = Stays a reply
ReplyTo a reserve reply = ReplyToBytes a 2 reply
ReplyTo a (fill place value) reply = ReplyToFill a (open_place place a.places) reply
ReplyTo a (write_record r) reply = ReplyToRecord a (record_size r) reply
ReplyTo a (write_items items) reply = ReplyToItems a items reply

-- each step has its reply
abbrev pub RepliesTo : Account → List Action → List Reply → Type 0
RepliesTo a [] [] = Unit {0}
RepliesTo a [] (reply ∷ replies) = ⊥
RepliesTo a (action ∷ actions) [] = ⊥
RepliesTo a (action ∷ actions) (reply ∷ replies) = ReplyTo a action reply × RepliesTo (after_action a action reply) actions replies

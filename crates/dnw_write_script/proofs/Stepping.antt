-- Each step of a run has its reply, and keeps what holds of account and encoder; and so do all.
use Rattle.std.proofs.Common.{◌≡◌, ℕ, Bool, zero, suc, ◌+◌, ◌-◌, ◌<◌, ◌≤◌, max, nat_lt, true, Option, Some, None, Ok, Err, List, [], ◌∷◌, ◌++◌, length, map, take, drop, slice_get, inl, inr, refl, sym, ap, ◌∙◌, subst, arith}
use Rattle.std.specs.Int.{w16, to_be_bytes}
use Rattle.std.proofs.lemmas.Option.{cond_some}
use Rattle.std.proofs.lemmas.List.Elements.{All-filter, All-nil}
use Rattle.std.proofs.lemmas.List.{append-nil, drop_at, length-append, map-append, take-append-le, take_all, take_at}
use Rattle.dnw_base.specs.declared.error.ProtoError.{ProtoError}
use Rattle.dnw_base.specs.declared.error.ProtoError.TheVariants.{MaxBufferSizeExceeded, Memory, CharacterDataTooLong}
use Rattle.dnw_base.specs.Limits.{max_message}
use Rattle.dnw_write.specs.Encoder.{Encoder, filled, moved_to, reserved, TakesRoom, Writes, WritesText, written}
use Rattle.dnw_write.specs.Emitting.{Frame, InTurn, rolled_back, list_error}
use Rattle.dnw_write_script.specs.declared.wire_record.WireRecord.{WireRecord}
use Rattle.dnw_write_script.specs.Parts.{EmitsWirePart, EmitsWireParts, parts_size, WirePart, bytes_part, in_encoding, name_part, text_part}
use Rattle.dnw_write_script.specs.RecordFrames.{frame_fields, frame_reserved, frame_wire_part}
use Rattle.dnw_write_script.specs.RecordLaws.{record_size, FailsForSize}
use Rattle.dnw_write_script.specs.WrittenRecords.{EmitsRecord}
use Rattle.dnw_write_script.proofs.Bounded.{parts_stay_bounded}
use Rattle.dnw_write_script.proofs.Preceding.{refused_records_undo}
use Rattle.dnw_write_script.proofs.Parts.{done_parts, fits_fields, Refuses, refused_part, refused_parts, refused_room, done_part, room_most}
use Rattle.dnw_base.specs.Names.{encoded_size}
use Rattle.dnw_write.specs.declared.encoder.modes.NameEncoding.{NameEncoding}
use Rattle.dnw_write.specs.EmittedName.{EmitsAs, Share, in_mode, room_for}
use Rattle.dnw_write.specs.EmittingLaws.{frame_written}
use Rattle.dnw_write.proofs.NameBack.{size_in_mode}
use Rattle.dnw_write.proofs.Suffixes.{length_all}
use Rattle.dnw_write_script.specs.declared.script.Part.{Part}
use Rattle.dnw_write_script.specs.declared.script.Item.{Item}
use Rattle.dnw_write_script.specs.declared.script.Reply.{Reply}
use Rattle.dnw_write_script.specs.declared.script.Reply.TheVariants.{Done, Refused, Items}
use Rattle.dnw_write_script.specs.Script.{Action, EmitsPart, EmitsScriptItem, write, set_max, set_encoding, set_canonical, reserve, fill, write_record, write_items, item_parts, items_parts, wire_part, action}
use Rattle.dnw_write_script.specs.Pieces.{Account, Piece, Slot, place_piece, record_piece, after_action, filled_in, spent, wire_piece, with_pieces, opening, account_from}
use Rattle.dnw_write_script.specs.Replies.{ItemFails, ReplyTo, ReplyToFill, ReplyToRecord, open_place, ReplyToBytes, ReplyToName, ReplyToPart, ReplyToText, RepliesTo}
use Rattle.dnw_write_script.specs.Runs.{GivesReply, IsUsefulIn, RunsFill, RunsItems, RunsStep, Runs, beginning}
use Rattle.dnw_write_script.proofs.Chunks.{Chunk, ends_append, ends_of, of_record, piece_of, place, Splits, split_at, upto, upto_filled, wrote}
use Rattle.dnw_write_script.proofs.Standing.{SoundAt, holds_now, lays_record, sound_filled, sound_parts, sound_reserved, sound_upto, sound_wrote, usable_precede}
use Rattle.dnw_write_script.proofs.WireParts.{as_item_parts, as_items_parts, as_wire_part}

-- ---- replies

room_least : (ls : List (List ℕ)) (choice : Option Share) → encoded_size ls ≤ room_for ls choice + 1
room_least ls None = omega arith
room_least ls (Some share) = omega (arith, length_all ls)

-- from an account that has the encoder's length, at the end of its buffer, and its maximum
module _ (a : Account) (v w : Encoder) (at_end : v.offset ≡ length v.bytes) (len_is : a.len ≡ v.offset) (max_is : a.max ≡ v.max_size) where
  reply-bytes : (done : Encoder) (n : ℕ) (reply : Reply) → length done.bytes ≡ v.offset + n → GivesReply (TakesRoom v n done) reply w
      → ReplyToBytes a n reply
  reply-bytes done n (Refused Memory len) size h = grind arith
  reply-bytes done n reply size h = grind arith

  reply-writes : (d : List ℕ) (reply : Reply) → GivesReply (Writes v d) reply w → ReplyToBytes a (length d) reply
  reply-writes d reply h = reply-bytes (written v d) (length d) reply (sym (frame_written v d at_end).ends) h

  reply-text : (text : List ℕ) (reply : Reply) → GivesReply (WritesText v text) reply w → ReplyToText a (length text) reply
  reply-text text (Refused (CharacterDataTooLong max size) len) h = grind arith
  reply-text text reply h = grind (arith, reply-writes (length text ∷ text) reply)

  refused-name : (mode : NameEncoding) (u : Encoder) (ls : List (List ℕ)) (choice : Option Share) (size len : ℕ) (error : ProtoError) → encoded_size ls ≡ size
      → len ≡ length v.bytes → EmitsAs (in_encoding v mode) ls choice (Err error) u → ReplyToName a size (Refused error len)
  refused-name mode u ls choice size len Memory is same h = omega (arith, room_least ls choice)
  refused-name mode u ls choice size len error is same h = grind (arith, room_most ls choice)

  reply-part : (part : WirePart) (reply : Reply) → GivesReply (EmitsWirePart part v) reply w → ReplyToPart a part reply
  reply-part (bytes_part d) reply h = reply-writes d reply h
  reply-part (text_part d) reply h = reply-text d reply h
  reply-part (name_part mode name) (Done len) h =
      let (u, em, is) = h.0 in
      let f = frame_wire_part (name_part mode name) v (Ok tt) w at_end h.0 in
      let (le, within, _, _) = done_part (name_part mode name) v w h.0 in
      omega (arith, room_least (in_mode mode name.labels) em.choice, em.written_as.0, size_in_mode mode name.labels, h.1, f.ends, le, within)
  reply-part (name_part mode name) (Refused error len) h =
      let (u, em, is) = h.0 in
      let same = h.1 ∙ ap (λ (x : Encoder). length x.bytes) (refused_part (name_part mode name) [] v w error h.0).0 in
      refused-name mode u (in_mode mode name.labels) em.choice (encoded_size name.labels) len error (size_in_mode mode name.labels) same em.written_as
  reply-part (name_part mode name) reply h = absurd h

  -- parts end within the maximum
  parts-bounded : (parts : List WirePart) (u : Encoder) (len : ℕ) → EmitsWireParts parts v (Ok tt) u → len ≡ length u.bytes → len ≤ max a.len a.max
  parts-bounded parts u len h is = rw (len_is ∙ at_end, max_is, is) (parts_stay_bounded parts v u (omega (arith, at_end)) h).0

  -- a record that is refused did not fit whole, or memory ran out
  refused-record : (size len : ℕ) (error : ProtoError) → len ≡ a.len → FailsForSize v size error → ReplyToRecord a size (Refused error len)
  refused-record size len error same (inl memory) = rw memory same
  refused-record size len error same (inr (is, less)) = rw is (omega (arith, less), sym max_is, same)

-- why an item is refused that begins at the length
refused_item : (a : Account) (count start : ℕ) (item : Item) (rest : List Item) (cause : ProtoError) → Refuses a.max start (item_parts a.mode item) cause
    → ItemFails a count start (item ∷ rest) (list_error count cause)
refused_item a count start item rest Memory h = tt
refused_item a count start item rest cause h = grind arith

-- ---- account and encoder

-- the same settings, by which no more than a message is written
abbrev pub Agrees : Account → Encoder → Type 0
Agrees a v = record { max : a.max ≡ v.max_size; mode : a.mode ≡ v.encoding; canonical : a.canonical ≡ v.canonical; small : v.max_size ≤ max_message }

-- They agree on chunks, and have the same settings.
pub record Good (old : List ℕ) (cs : List Chunk) (a : Account) (v : Encoder) : Type 0 where
  pub sound : SoundAt old cs v
  pub len_is : a.len ≡ v.offset
  pub pieces_are : a.pieces ≡ map piece_of cs
  pub places : map (λ (s : Slot). s.end) a.places ≡ ends_of (length old) cs
  pub agree : Agrees a v

-- The run has gone on from these chunks: there may be more of them, and the first ones end where they did.
pub record Goes (old : List ℕ) (cs : List Chunk) (a : Account) (v : Encoder) : Type 0 where
  pub chunks : List Chunk
  pub good : Good old chunks a v
  pub longer : length cs ≤ length chunks
  pub same : (k : ℕ) → k ≤ length cs → upto (length old) (take k chunks) ≡ upto (length old) (take k cs)

-- with the same chunks
pub goes_same : (old : List ℕ) (cs : List Chunk) (a : Account) (v w : Encoder) → Good old cs a v → w ≡ v → Goes old cs a w
goes_same old cs a v w good same = record { chunks = cs; good = subst (Good old cs a) (sym same) good; longer = omega arith; same = λ k le. refl }

pub goes_then : (old : List ℕ) (cs : List Chunk) (a b : Account) (v w : Encoder) (one : Goes old cs a v) → Goes old one.chunks b w → Goes old cs b w
goes_then old cs a b v w one two =
    let longer : length cs ≤ length two.chunks = omega (arith, one.longer, two.longer) in
    record { chunks = two.chunks; good = two.good; longer = longer; same = λ k le. two.same k (omega (arith, le, one.longer)) ∙ one.same k le }

-- Chunks were written with these pieces, and placeholders that end there.
goes_more : (old : List ℕ) (cs ds : List Chunk) (a : Account) (v w : Encoder) (ps : List Piece) (len : ℕ) (slots : List Slot) → Good old cs a v
    → SoundAt old (cs ++ ds) w → Frame v (Ok tt) w → len ≡ length w.bytes → map piece_of ds ≡ ps
    → map (λ (s : Slot). s.end) slots ≡ map (λ (s : Slot). s.end) a.places ++ ends_of (upto (length old) cs) ds
    → Goes old cs (record a { len = len; pieces = a.pieces ++ ps; places = slots }) w
goes_more old cs ds a v w ps len slots good sound f len_is pieces ends =
    record {
      chunks = cs ++ ds;
      good = record {
        sound = sound;
        len_is = len_is ∙ sym sound.end;
        pieces_are = cc (good.pieces_are, pieces, map-append piece_of cs ds);
        places = cc (ends, good.places, ends_append (length old) cs ds);
        agree = rw (← f.max_size, ← f.encoding, ← f.canonical) at good.agree;
      };
      longer = omega (arith, length-append cs ds);
      same = λ k le. ap (upto (length old)) (take-append-le k cs ds le);
    }

goes_parts : (old : List ℕ) (cs : List Chunk) (a : Account) (v w : Encoder) (parts : List WirePart) (len : ℕ) → Good old cs a v → EmitsWireParts parts v (Ok tt) w
    → len ≡ length w.bytes → Goes old cs (with_pieces a (map wire_piece parts) len) w
goes_parts old cs a v w parts len good h len_is =
    let (ds, pieces, none, sound, f) = sound_parts old cs v w parts good.sound h in
    goes_more old cs ds a v w (map wire_piece parts) len a.places good sound f len_is pieces (rw (none (upto (length old) cs), append-nil) refl)

-- ---- what steps come to

as_wire : (part : Part) (v w : Encoder) (reply : Reply) → v.offset ≡ length v.bytes → GivesReply (EmitsPart part v) reply w
    → GivesReply (EmitsWirePart (wire_part v.encoding part) v) reply w
as_wire part v w (Done len) e h = (as_wire_part part v w _ e h.0, h.1)
as_wire part v w reply e h = grind (arith, as_wire_part part v w)

-- a refused part changes nothing
pub part_same : (part : Part) (v w : Encoder) (error : ProtoError) → v.offset ≡ length v.bytes → EmitsPart part v (Err error) w → w ≡ v
part_same part v w error e h = (refused_part (wire_part v.encoding part) [] v w error (as_wire_part part v w (Err error) e h)).0

-- a placeholder that is open is among them
open_at : (i : ℕ) (slots : List Slot) (end : ℕ) → open_place i slots ≡ Some end → slice_get (map (λ (s : Slot). s.end) slots) i ≡ Some end
open_at i [] end here = absurd cc
open_at zero (slot ∷ slots) end here = cc (cond_some slot.is_open slot.end end here).1
open_at (suc i) (slot ∷ slots) end here = open_at i slots end here

ends_spent : (i : ℕ) (slots : List Slot) → map (λ (s : Slot). s.end) (spent i slots) ≡ map (λ (s : Slot). s.end) slots
ends_spent i [] = refl
ends_spent zero (slot ∷ slots) = refl
ends_spent (suc i) (slot ∷ slots) = cc (ends_spent i slots)

pub record_undone : (old : List ℕ) (cs : List Chunk) (v w : Encoder) (r : WireRecord) (error : ProtoError) → SoundAt old cs v → EmitsRecord r v (Err error) w → w ≡ v
record_undone old cs v w r error s h =
    refused_records_undo r v w error s.end (usable_precede v.bytes v (sym s.end) (holds_now old cs v s).1) h

good_rolled : (old : List ℕ) (cs : List Chunk) (a : Account) (m u : Encoder) → Good old cs a m → Good old cs a (rolled_back m u)
good_rolled old cs a m u good =
    let s = good.sound in
    let sound : SoundAt old cs (rolled_back m u) =
    record { bytes = s.bytes; end = s.end; holds = λ x h. ((s.holds x h).0, All-filter (λ c. nat_lt c.0 m.offset) (IsUsefulIn x) m.candidates (s.holds x h).1) } in
    record { sound = sound; len_is = good.len_is; pieces_are = good.pieces_are; places = good.places; agree = good.agree }

-- ---- each step

module _ (old : List ℕ) (cs : List Chunk) (a : Account) (v w : Encoder) (good : Good old cs a v) where
  -- What a step has to show.
  abbrev Steps : Action → Reply → Type 0
  Steps action reply = ReplyTo a action reply × Goes old cs (after_action a action reply) w

  goes-write : (part : Part) (reply : Reply) → GivesReply (EmitsWirePart (wire_part a.mode part) v) reply w
      → Goes old cs (after_action a (write part) reply) w
  goes-write part (Done len) h = goes_parts old cs a v w (wire_part a.mode part ∷ []) len good (w, h.0, refl) h.1
  goes-write part (Refused error len) h = goes_same old cs a v w good (refused_part (wire_part a.mode part) [] v w error h.0).0
  goes-write part reply h = absurd h

  goes-reserve : (reply : Reply) → RunsStep a v reserve reply w → Goes old cs (after_action a reserve reply) w
  goes-reserve (Done len) h =
      let s = good.sound in
      let sound : SoundAt old (cs ++ place 0 ∷ []) w = rw h.0.1 (sound_reserved old cs v s) in
      let end : upto (length old) cs + 2 ≡ len = omega (arith, h.1, sound.end, ap (λ (x : Encoder). x.offset) h.0.1, sound_upto old cs v s) in
      let slot : Slot = record { end = len; is_open = true } in
      goes_more old cs (place 0 ∷ []) a v w (place_piece 0 ∷ []) len (a.places ++ slot ∷ []) good sound (rw h.0.1 (frame_reserved v s.end)) h.1 refl
      (cc (end, map-append (λ (s : Slot). s.end) a.places (slot ∷ [])))
  goes-reserve (Refused error len) h = goes_same old cs a v w good (refused_room v (reserved v 2) w 2 error h.0).0
  goes-reserve reply h = absurd h

  -- one is filled that ends among the chunks
  fill-split : (number value end : ℕ) (reply : Reply) → Splits number value (length old) cs end → RunsFill v (Some end) value reply w
      → ReplyToFill a (Some end) reply × Goes old cs (after_action a (fill number value) reply) w
  fill-split number value end (Done len) (front, held, back, whole, ends, within, pieces) h =
      let chunks = front ++ place value ∷ back in
      let u = filled v (end - 2) (to_be_bytes w16 value) in
      let sound : SoundAt old chunks u = sound_filled old front back held value v (end - 2) (rw whole at good.sound) (omega (arith, ends)) in
      let made : w ≡ u = h.0.2 ∙ ap (λ (x : Encoder). moved_to x v.offset) h.0.1.1 in
      let b = after_action a (fill number value) (Done len) in
      let same_ends : ends_of (length old) chunks ≡ ends_of (length old) cs = rw (whole, ends_append, ends_append) refl in
      let good_now : Good old chunks b u = record {
        sound = sound;
        len_is = good.len_is;
        pieces_are = ap (λ (ps : List Piece). filled_in ps number value) good.pieces_are ∙ pieces;
        places = ends_spent number a.places ∙ (good.places ∙ sym same_ends);
        agree = good.agree;
      } in (
        (omega (arith, ends, h.0.1.0, good.agree.max), omega (arith, h.1, ap (λ (x : Encoder). length x.bytes) made, sound.end, good.len_is)),
        record {
          chunks = chunks;
          good = subst (Good old chunks b) (sym made) good_now;
          longer = omega (arith, ap length whole, length-append front (place held ∷ back), length-append front (place value ∷ back));
          same = λ k le. upto_filled (length old) k value held front back ∙ ap (λ (xs : List Chunk). upto (length old) (take k xs)) (sym whole);
        },
      )
  fill-split number value end (Refused Memory len) (front, held, back, whole, ends, within, pieces) h =
      absurd (omega (arith, ends, within, sound_upto old cs v good.sound, good.sound.end, h.0.1.1))
  fill-split number value end (Refused (MaxBufferSizeExceeded size) len) (front, held, back, whole, ends, within, pieces) h =
      let same : w ≡ v = h.0.2 ∙ ap (λ (x : Encoder). moved_to x v.offset) h.0.1.2 in
      let b = record a { places = spent number a.places } in
      let places = ends_spent number a.places ∙ good.places in
      let spent_now : Good old cs b v = record { sound = good.sound; len_is = good.len_is; pieces_are = good.pieces_are; places = places; agree = good.agree } in (
        (omega (arith, ends, h.0.1.0, good.agree.max), h.0.1.1 ∙ sym good.agree.max, omega (arith, h.1, ap (λ (x : Encoder). length x.bytes) same, good.sound.end, good.len_is)),
        goes_same old cs b v w spent_now same,
      )
  fill-split number value end reply r h = grind arith

  step-fill : (number value : ℕ) (slot : Option ℕ) (reply : Reply) → open_place number a.places ≡ slot → RunsFill v slot value reply w
      → ReplyToFill a slot reply × Goes old cs (after_action a (fill number value) reply) w
  step-fill number value None reply here h = rw h.0 (refl, goes_same old cs a v w good h.1)
  step-fill number value (Some end) reply here h =
      fill-split number value end reply (split_at number value (length old) cs end (rw good.places at (open_at number a.places end here))) h

  step-record : (r : WireRecord) (reply : Reply) → GivesReply (EmitsRecord r v) reply w → Steps (write_record r) reply
  step-record r (Done len) h =
      let s = good.sound in
      let (le, within, _, _) = (fits_fields r).done v w h.0.1 in
      let f = frame_fields r v (Ok tt) w s.end h.0.1 in
      let (d, sound) = sound_wrote old cs v w (of_record v.encoding v.canonical r) s (lays_record r v w s.end h.0.1 h.0.0 (omega (arith, within, good.agree.small))) in (
        (omega (arith, h.1, f.ends, within, good.agree.max), omega (arith, h.1, f.ends, le, good.len_is)),
        goes_more old cs (wrote (of_record v.encoding v.canonical r) d ∷ []) a v w (record_piece a.mode a.canonical r ∷ []) len a.places good sound f h.1
            (cc (good.agree.mode, good.agree.canonical)) (sym (append-nil _)),
      )
  step-record r (Refused error len) h =
      let same = record_undone old cs v w r error good.sound h.0 in
      let len_is : len ≡ a.len = omega (arith, h.1, ap (λ (x : Encoder). length x.bytes) same, good.sound.end, good.len_is) in (
        refused-record a v w good.sound.end good.len_is good.agree.max (record_size r) len error len_is ((fits_fields r).refused v h.0.0 error h.0.1).1,
        goes_same old cs a v w good same,
      )
  step-record r reply h = absurd h

  -- the first items are written
  items-first : (items : List Item) (m : Encoder) (len : ℕ) → InTurn EmitsScriptItem v items m → len ≡ length m.bytes
      → (len ≤ a.len + parts_size (items_parts a.mode items)) × (len ≤ max a.len a.max)
      × Goes old cs (with_pieces a (map wire_piece (items_parts a.mode items)) len) m
  items-first items m len h is =
      let parts = items_parts a.mode items in
      let emits = as_items_parts a.mode items v m good.sound.end (sym good.agree.mode) h in
      let go = goes_parts old cs a v m parts len good emits is in
      (omega (arith, done_parts parts v m emits, is, go.good.sound.end, good.len_is), parts-bounded a v w good.sound.end good.len_is good.agree.max parts m len emits is, go)

  step-items : (items : List Item) (reply : Reply) → RunsItems v items reply w → Steps (write_items items) reply
  step-items items (Items count None len) h =
      let (least, most, go) = items-first items w len h.0 h.2 in
      rw (take_all count items (omega (arith, h.1))) ((h.1, least, most), go)
  step-items items (Items count (Some error) len) h =
      let (first, item, rest, m, split, many, in_turn, (u, cause, one, made, error_is), tells) = h in
      let ended : len ≡ length m.bytes = tells ∙ ap (λ (x : Encoder). length x.bytes) made in
      let (least, most, go) = items-first first m len in_turn ended in
      let g = go.good in
      let start : len ≡ m.offset = ended ∙ sym g.sound.end in
      let why = refused_parts (item_parts m.encoding item) m u cause (as_item_parts item m u (Err cause) g.sound.end one) in
      let front : take count items ≡ first = cc (take_at first (item ∷ rest) count (sym many)) in
      let back : drop count items ≡ item ∷ rest = cc (drop_at first (item ∷ rest) count (sym many)) in
      let fails = refused_item a count len item rest cause (rw (sym g.agree.max, ← start, ← g.agree.mode) at why) in
      let few : count < length items = omega (arith, many, ap length split, length-append first (item ∷ rest)) in
      let b = with_pieces a (map wire_piece (items_parts a.mode first)) len in
      let gone = goes_then old cs b b m w go (goes_same old go.chunks b (rolled_back m u) w (good_rolled old go.chunks b m u g) made) in
      rw (front, back, error_is) ((few, least, most, fails), gone)
  step-items items reply h = absurd h

  -- other settings leave the length, the pieces and the placeholders
  step-set : {x : ℕ} {m : NameEncoding} {c : Bool} {y : ℕ} {n : NameEncoding} {d : Bool}
      → Agrees (record a { max = x; mode = m; canonical = c }) (record v { max_size = y; encoding = n; canonical = d })
      → w ≡ record v { max_size = y; encoding = n; canonical = d } → (length w.bytes ≡ a.len) × Goes old cs (record a { max = x; mode = m; canonical = c }) w
  step-set {x} {m} {c} {y} {n} {d} agree made =
      let set : Good old cs (record a { max = x; mode = m; canonical = c }) (record v { max_size = y; encoding = n; canonical = d }) =
      record { sound = good.sound; len_is = good.len_is; pieces_are = good.pieces_are; places = good.places; agree = agree } in
      (omega (arith, ap (λ (x : Encoder). length x.bytes) made, good.sound.end, good.len_is), goes_same old cs _ _ w set made)

  pub step : (action : Action) (reply : Reply) → RunsStep a v action reply w → Steps action reply
  step (write part) reply h =
      let s = good.sound in
      let wire = subst (λ m. GivesReply (EmitsWirePart (wire_part m part) v) reply w) (sym good.agree.mode) (as_wire part v w reply s.end h) in
      (reply-part a v w s.end good.len_is good.agree.max (wire_part a.mode part) reply wire, goes-write part reply wire)
  step (set_max size) reply h =
      rw h.0 (step-set (record { max = refl; mode = good.agree.mode; canonical = good.agree.canonical; small = h.2 }) h.1)
  step (set_encoding m) reply h =
      rw h.0 (step-set (record { max = good.agree.max; mode = refl; canonical = good.agree.canonical; small = good.agree.small }) h.1)
  step (set_canonical c) reply h =
      rw h.0 (step-set (record { max = good.agree.max; mode = good.agree.mode; canonical = refl; small = good.agree.small }) h.1)
  step reserve reply h =
      (reply-bytes a v w good.sound.end good.len_is good.agree.max (reserved v 2) 2 reply (sym (frame_reserved v good.sound.end).ends) h, goes-reserve reply h)
  step (fill number value) reply h = step-fill number value (open_place number a.places) reply refl h
  step (write_record r) reply h = step-record r reply h
  step (write_items items) reply h = step-items items reply h

-- ---- all steps in turn

pub goes : (old : List ℕ) (cs : List Chunk) (a : Account) (v w : Encoder) (actions : List Action) (replies : List Reply) → Good old cs a v
    → Runs a v actions replies w → RepliesTo a actions replies × Goes old cs (account_from a actions replies) w
goes old cs a v w [] [] good h = (tt, goes_same old cs a v w good h)
goes old cs a v w (action ∷ actions) (reply ∷ replies) good h =
    let (given, one) = step old cs a v h.0 good action reply h.1 in
    let b = after_action a action reply in
    let (others, rest) = goes old one.chunks b h.0 w actions replies one.good h.2 in
    ((given, others), goes_then old cs b (account_from b actions replies) h.0 w one rest)
goes old cs a v w actions replies good h = absurd h

-- a new encoder at the end of its buffer agrees with the opening account on no chunks
pub good_beginning : (old : List ℕ) (candidates names : ℕ) → Good old [] (opening (length old)) (beginning old candidates names)
good_beginning old candidates names =
    let sound : SoundAt old [] (beginning old candidates names) = record { bytes = sym (append-nil old); end = refl; holds = λ x h. (tt, All-nil (IsUsefulIn x)) } in
    record { sound = sound; len_is = refl; pieces_are = refl; places = refl; agree = record { max = refl; mode = refl; canonical = refl; small = omega arith } }

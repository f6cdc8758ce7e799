-- A run of a script: what each step and its reply make of an encoder.
use Rattle.std.specs.Prelude.{◌≡◌, ℕ, ◌-◌, ◌≤◌, List, [], ◌∷◌, ◌++◌, length, Option, Some, None, Ok, Err}
use Rattle.std.specs.List.{AllByRecursion}
use Rattle.std.specs.Int.{w16, to_be_bytes}
use Rattle.dnw_write.specs.Encoder.{Encoder, Writes, TakesRoom, fresh, moved_to, reserved}
use Rattle.dnw_write_suffixes.specs.Candidates.{Candidate}
use Rattle.dnw_write.specs.Emitting.{Outcome, EmitsItem, InTurn}
use Rattle.dnw_write.specs.EmittedName.{so_far}
use Rattle.dnw_base.specs.Limits.{max_message}
use Rattle.dnw_base.specs.Names.{labels_wire}
use Rattle.dnw_name_read.specs.Reading.{NameAt}
use Rattle.dnw_write_script.specs.WrittenRecords.{EmitsRecord}
use Rattle.dnw_write_script.specs.declared.script.Item.{Item}
use Rattle.dnw_write_script.specs.declared.script.Reply.{Reply}
use Rattle.dnw_write_script.specs.declared.script.Reply.TheVariants.{Done, Refused, NoPlace, Items}
use Rattle.dnw_write_script.specs.Script.{Action, write, set_max, set_encoding, set_canonical, reserve, fill, write_record, write_items, EmitsPart, EmitsScriptItem}
use Rattle.dnw_write_script.specs.Pieces.{Account, after_action, opening}
use Rattle.dnw_write_script.specs.Replies.{open_place}

-- the reply to a write, with the length of the buffer after it
abbrev pub GivesReply : (Outcome → Encoder → Type 0) → Reply → Encoder → Type 0
GivesReply writes (Done len) w = writes (Ok tt) w × (len ≡ length w.bytes)
GivesReply writes (Refused error len) w = writes (Err error) w × (len ≡ length w.bytes)
GivesReply writes reply w = ⊥

-- two bytes are written into the placeholder that ends there, and the offset put back
abbrev pub Fills : Encoder → ℕ → ℕ → Outcome → Encoder → Type 0
Fills v end value outcome w = (u : Encoder) × Writes (moved_to v (end - 2)) (to_be_bytes w16 value) outcome u × (w ≡ moved_to u v.offset)

abbrev pub RunsFill : Encoder → Option ℕ → ℕ → Reply → Encoder → Type 0
RunsFill v None value reply w = (reply ≡ NoPlace) × (w ≡ v)
RunsFill v (Some end) value reply w = GivesReply (Fills v end value) reply w

-- The first items are written in turn, and the next one, if there is one, fails and is rolled back.
abbrev pub RunsItems : Encoder → List Item → Reply → Encoder → Type 0
RunsItems v items (Items count None len) w = InTurn EmitsScriptItem v items w × (count ≡ length items) × (len ≡ length w.bytes)
RunsItems v items (Items count (Some error) len) w =
    (first : List Item) × (item : Item) × (rest : List Item) × (m : Encoder) × (items ≡ first ++ item ∷ rest) × (count ≡ length first)
    × InTurn EmitsScriptItem v first m × EmitsItem EmitsScriptItem item count m (Err error) w × (len ≡ length w.bytes)
RunsItems v items reply w = ⊥

-- one step; no maximum is more than a message may have
abbrev pub RunsStep : Account → Encoder → Action → Reply → Encoder → Type 0
RunsStep a v (write part) reply w = GivesReply (EmitsPart part v) reply w
RunsStep a v (set_max size) reply w = (reply ≡ Done (length w.bytes)) × (w ≡ record v { max_size = size }) × (size ≤ max_message)
RunsStep a v (set_encoding mode) reply w = (reply ≡ Done (length w.bytes)) × (w ≡ record v { encoding = mode })
RunsStep a v (set_canonical canonical) reply w = (reply ≡ Done (length w.bytes)) × (w ≡ record v { canonical = canonical })
RunsStep a v reserve reply w = GivesReply (TakesRoom v 2 (reserved v 2)) reply w
RunsStep a v (fill place value) reply w = RunsFill v (open_place place a.places) value reply w
RunsStep a v (write_record r) reply w = GivesReply (EmitsRecord r v) reply w
RunsStep a v (write_items items) reply w = RunsItems v items reply w

-- all steps, with a reply for each
abbrev pub Runs : Account → Encoder → List Action → List Reply → Encoder → Type 0
Runs a v [] [] w = w ≡ v
Runs a v [] (reply ∷ replies) w = ⊥
Runs a v (action ∷ actions) [] w = ⊥
Runs a v (action ∷ actions) (reply ∷ replies) w = (m : Encoder) × RunsStep a v action reply m × Runs (after_action a action reply) m actions replies w

-- the encoder that a run begins with, at the end of the buffer
abbrev pub beginning : List ℕ → ℕ → ℕ → Encoder
beginning old candidates names = record (fresh old (length old)) { candidate_limit = candidates; name_limit = names }

-- A candidate is usable in a message: at its offset, there is a name whose labels have its bytes.
pub record IsUsefulIn (message : List ℕ) (c : Candidate) : Type 0 where
  pub labels : List (List ℕ)
  pub bytes : c.1 ≡ labels_wire labels
  pub end : ℕ
  pub pointers : ℕ
  pub name : NameAt message c.0 labels end pointers

-- in the message that is written so far
abbrev pub IsUseful : Encoder → Candidate → Type 0
IsUseful v c = IsUsefulIn (so_far v) c

-- A run of steps from the end of a buffer to finished bytes.
pub record Run (old : List ℕ) (candidates names : ℕ) (actions : List Action) (replies : List Reply) (finished : List ℕ) : Type 0 where
  pub last : Encoder
  pub runs : Runs (opening (length old)) (beginning old candidates names) actions replies last
  pub bytes : finished ≡ last.bytes
  pub useful : AllByRecursion (IsUseful last) last.candidates

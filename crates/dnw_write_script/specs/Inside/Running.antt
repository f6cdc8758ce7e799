-- The placeholders that a run keeps.
use Rattle.std.specs.Prelude.{◌≡◌, ℕ, ◌+◌, ◌≤◌, true, false, List, [], ◌∷◌, ◌++◌, length, Option, Some, None, Ok, Err}
use Rattle.dnw_write.specs.Encoder.{Encoder}
use Rattle.dnw_write.specs.Emitting.{Outcome}
use Rattle.dnw_write_script.specs.declared.script.Reply.{Reply}
use Rattle.dnw_write_script.specs.declared.script.Reply.TheVariants.{Done, Refused, NoPlace}
use Rattle.dnw_write_script.specs.Script.{Action}
use Rattle.dnw_write_script.specs.Pieces.{Slot, opening}
use Rattle.dnw_write_script.specs.Runs.{Fills, GivesReply, Runs, beginning}

-- the reply to a write
abbrev pub reply_to : Outcome → ℕ → Reply
reply_to (Ok done) len = Done len
reply_to (Err error) len = Refused error len

-- A placeholder that may still be filled ends no later than the offset.
abbrev pub HoldsPlace : Encoder → Option ℕ → Type 0
HoldsPlace v None = Unit {0}
HoldsPlace v (Some place) = place + 2 ≤ v.offset

-- the placeholders that may still be filled are those that the account has
abbrev pub TracksOne : Option ℕ → Slot → Type 0
TracksOne None slot = slot.is_open ≡ false
TracksOne (Some place) slot = (slot.is_open ≡ true) × (slot.end ≡ place + 2)

abbrev pub Tracks : List (Option ℕ) → List Slot → Type 0
Tracks [] [] = Unit {0}
Tracks (place ∷ places) (slot ∷ slots) = TracksOne place slot × Tracks places slots
Tracks places slots = ⊥

-- one more placeholder, if it is reserved
abbrev pub KeepsPlace : List (Option ℕ) → ℕ → Reply → List (Option ℕ) → Type 0
KeepsPlace places offset (Done len) after = after ≡ places ++ Some offset ∷ []
KeepsPlace places offset reply after = after ≡ places

-- A placeholder is filled and used up, if it may still be.
abbrev pub FillsKept : Encoder → Option ℕ → ℕ → Reply → Encoder → Type 0
FillsKept v None value reply w = (reply ≡ NoPlace) × (w ≡ v)
FillsKept v (Some place) value reply w = GivesReply (Fills v (place + 2) value) reply w

-- The steps lead from the end of a buffer to finished bytes.
abbrev pub RunsTo : List ℕ → ℕ → ℕ → List Action → List Reply → List ℕ → Type 0
RunsTo old candidates names actions replies finished =
    (w : Encoder) × Runs (opening (length old)) (beginning old candidates names) actions replies w × (finished ≡ w.bytes)

-- What `emit` of any type keeps, and what a list of items makes of an encoder.
use Rattle.std.specs.Prelude.{◌≡◌, ℕ, List, [], ◌∷◌, length, take, Option, Some, None, Result, Ok, Err, OnOk}
use Rattle.std.specs.Iterator.{YieldsThen}
use Rattle.dnw_base.specs.declared.error.ProtoError.{ProtoError}
use Rattle.dnw_base.specs.declared.error.ProtoError.TheVariants.{MaxBufferSizeExceeded, NotAllRecordsWritten}
use Rattle.dnw_write_suffixes.specs.Candidates.{candidates_before}
use Rattle.dnw_write.specs.Encoder.{Encoder, written, filled, moved_to}

-- what a call of `emit` returns
abbrev pub Outcome : Type 0
Outcome = Result (Unit {0}) ProtoError

-- how a type's values are written: from one encoder, with an outcome, to another
abbrev pub Emits : Type 0 → Type 1
Emits X = X → Encoder → Outcome → Encoder → Type 0

-- What every `emit` keeps that begins at the buffer's end, whether it succeeds or fails: what was there before, the modes
-- and the limits. If it succeeds, it ends at the buffer's end.
pub record Frame (v : Encoder) (outcome : Outcome) (w : Encoder) : Type 0 where
  pub bytes : take v.offset w.bytes ≡ v.bytes
  pub candidates : candidates_before v.offset w.candidates ≡ candidates_before v.offset v.candidates
  pub encoding : w.encoding ≡ v.encoding
  pub canonical : w.canonical ≡ v.canonical
  pub max_size : w.max_size ≡ v.max_size
  pub candidate_limit : w.candidate_limit ≡ v.candidate_limit
  pub name_limit : w.name_limit ≡ v.name_limit
  pub ends : OnOk outcome (w.offset ≡ length w.bytes)

-- ---- placeholders

-- A value is written into a placeholder, and the offset put back.
abbrev pub EmitsAt : {X : Type 0} → Emits X → ℕ → X → Encoder → Outcome → Encoder → Type 0
EmitsAt emits place x v outcome w = (u : Encoder) × emits x (moved_to v place) outcome u × (w ≡ moved_to u v.offset)

-- n bytes are written into a placeholder, and nothing else is changed.
abbrev pub FillsPlace : ℕ → ℕ → Encoder → Encoder → Type 0
FillsPlace place n v w = (bytes : List ℕ) × (length bytes ≡ n) × (w ≡ filled v place bytes)

-- What `emit` of a type of n bytes does if it succeeds: it writes so many bytes and changes nothing else.
abbrev pub WritesLen : {X : Type 0} → Emits X → ℕ → Type 0
WritesLen {X} emits n = (x : X) (v w : Encoder) → emits x v (Ok tt) w
    → (bytes : List ℕ) × (length bytes ≡ n) × (w ≡ written v bytes)

-- If it fails, the encoder is unchanged.
abbrev pub FailsUnchanged : {X : Type 0} → Emits X → Type 0
FailsUnchanged {X} emits = (x : X) (v w : Encoder) (error : ProtoError) → emits x v (Err error) w → w ≡ v

-- ---- lists of items

-- The items are written in turn, each once, and nothing between them.
abbrev pub InTurn : {X : Type 0} → Emits X → Encoder → List X → Encoder → Type 0
InTurn emits v [] w = w ≡ v
InTurn emits v (x ∷ xs) w = (m : Encoder) × emits x v (Ok tt) m × InTurn emits m xs w

-- The encoder m, once the item that failed, and made u of it, is rolled back: only the names that it counted stay
-- counted.
abbrev pub rolled_back : Encoder → Encoder → Encoder
rolled_back m u = record m { candidates = candidates_before m.offset m.candidates; names = u.names }

-- the error of a list whose next item failed after so many were written
abbrev pub list_error : ℕ → ProtoError → ProtoError
list_error count (MaxBufferSizeExceeded size) = NotAllRecordsWritten count
list_error count error = error

-- One more item after so many others: it is written, or it fails and is rolled back.
abbrev pub EmitsItem : {X : Type 0} → Emits X → X → ℕ → Encoder → Outcome → Encoder → Type 0
EmitsItem emits x count v (Ok done) w = emits x v (Ok tt) w
EmitsItem emits x count v (Err error) w =
    (u : Encoder) × (cause : ProtoError) × emits x v (Err cause) u × (w ≡ rolled_back v u) × (error ≡ list_error count cause)

-- The iterator's items are written: all of them in turn, and their number returned; or all up to the first that fails,
-- which is taken and rolled back. Those after it stay in the iterator.
abbrev pub EmitsItems : {X I : Type 0} → Emits X → (I → Option X → I → Type 0) → I → Encoder → Result ℕ ProtoError → Encoder → I → Type 0
EmitsItems {X} emits steps items v (Ok count) w rest =
    (xs : List X) × YieldsThen steps items xs None rest × InTurn emits v xs w × (count ≡ length xs)
EmitsItems {X} emits steps items v (Err error) w rest =
    (xs : List X) × (x : X) × (m : Encoder) × YieldsThen steps items xs (Some x) rest × InTurn emits v xs m
    × EmitsItem emits x (length xs) m (Err error) w

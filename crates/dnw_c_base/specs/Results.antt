-- How C gets the result of a call: a number, what is stored in a place of the caller's, and what is put into a buffer.
use Rattle.std.specs.Prelude.{◌≡◌, ◌<◌, ◌≤◌, ℕ, List, length, Result, IsOk, IfOk, IfErr, MatchResult}
use Rattle.dnw_name_read.specs.Buffers.{put}
use Rattle.dnw_c_base.specs.Failures.{number}
use Rattle.dnw_c_base.specs.declared.failure.Failure.{Failure}
use Rattle.dnw_c_base.specs.declared.failure.Failure.TheVariants.{NoRoom}

-- A value is stored, and the number is 0. A failure has its number, which is not 0, and what is in the place is unchanged.
pub record IsStored {T : Type 0} (result : Result T Failure) (old new : T) (code : ℕ) : Type 0 where
  pub value : IfOk result (λ value. (code ≡ 0) × (new ≡ value))
  pub failure : IfErr result (λ failure. (code ≡ number failure) × (new ≡ old))
  pub zero : code ≡ 0 → IsOk result

-- A call returns the number of a result of which this is so, and stores its value.
abbrev pub Returns : {T : Type 0} → (Result T Failure → Type 0) → T → T → ℕ → Type 0
Returns {T} Is old new code = (result : Result T Failure) × Is result × IsStored result old new code

-- the same of a call that stores nothing
abbrev pub ReturnsNumber : (Result (Unit {0}) Failure → Type 0) → ℕ → Type 0
ReturnsNumber Is code = Returns Is tt tt code

-- A value for which this is so, or a failure for which that is.
abbrev pub GivesOr : {T : Type 0} → (T → Type 0) → (Failure → Type 0) → Result T Failure → Type 0
GivesOr Is Fails result = IfOk result Is × IfErr result Fails

-- These items are put at the front of a buffer, and this is the value, if they fit. Else there is no room, and the buffer is unchanged.
abbrev pub Puts : {T : Type 0} → List ℕ → T → List ℕ → List ℕ → Result T Failure → Type 0
Puts items value old new result = MatchResult result
    (λ found. (found ≡ value) × (length items ≤ length old) × (new ≡ put old items))
    (λ failure. (failure ≡ NoRoom) × (length old < length items) × (new ≡ old))

-- the same of items that fit into any buffer of this size
abbrev pub PutsWithin : {T : Type 0} → ℕ → List ℕ → T → List ℕ → List ℕ → Result T Failure → Type 0
PutsWithin most items value old new result = Puts items value old new result × IfErr result (λ _. length old < most)

-- It fails for such a reason, and nothing is changed.
abbrev pub Refuses : {S T : Type 0} → (Failure → Type 0) → S → S → Result T Failure → Type 0
Refuses Fails old new result = MatchResult result (λ _. ⊥) (λ failure. Fails failure × (new ≡ old))

-- Lists of names, which are read with a limit of pointers for all of them, and written as a message.
use Rattle.std.specs.Prelude.{◌≡◌, ◌<◌, ◌⊎◌, ℕ, ◌+◌, true, List, [], length, Result, Ok, Err}
use Rattle.dnw_base.specs.Decoder.{Decoder}
use Rattle.dnw_base.specs.Limits.{max_pointers}
use Rattle.dnw_base.specs.declared.error.DecodeError.{DecodeError}
use Rattle.dnw_base.specs.declared.error.ProtoError.{ProtoError}
use Rattle.dnw_name_read.specs.Reading.{StopsAt, TakesName}
use Rattle.dnw_write.specs.Encoder.{Encoder, fresh}
use Rattle.dnw_write.specs.EmittedName.{EmitsName}
use Rattle.dnw_c_base.specs.Failures.{of_decode, of_proto}
use Rattle.dnw_c_base.specs.declared.failure.Failure.{Failure}
use Rattle.dnw_c_base.specs.declared.failure.Failure.TheVariants.{TooManyPointers}
use Rattle.dnw_c_base.specs.Results.{Puts, Refuses}
use Rattle.dnw_c_names.specs.declared.names.WrittenNames.{WrittenNames}

-- a decoder at the first byte of a list
abbrev pub at_first : List ℕ → Decoder
at_first list = record { bytes = list; index = 0 }

-- The name at the cursor of a list is read, and of the pointers that may be followed those of the name are taken: so many are left.
abbrev pub TakesNextName : Decoder → ℕ → List (List ℕ) → Decoder → ℕ → Type 0
TakesNextName before most labels after left = (k : ℕ) × TakesName before after labels k × (left + k ≡ most)

-- No name is at the cursor, or one that follows more pointers than are left.
abbrev pub IsNoNextName : Decoder → ℕ → Failure → Type 0
IsNoNextName d left failure =
    ((error : DecodeError) × (k : ℕ) × (j : ℕ) × StopsAt d error k j × (failure ≡ of_decode error))
    ⊎ ((after : Decoder) × (labels : List (List ℕ)) × (k : ℕ) × TakesName d after labels k × (left < k) × (failure ≡ TooManyPointers))

-- ---- a message of the names

-- a new encoder of a message of that size at most
abbrev pub limited_to : ℕ → Encoder
limited_to max_size = record (fresh [] 0) { max_size = max_size }

-- A fully qualified name with these labels is written, or it fails.
abbrev pub WritesName : List (List ℕ) → Encoder → Result (Unit {0}) ProtoError → Encoder → Type 0
WritesName labels v result w = EmitsName (record { is_fqdn = true; labels = labels }) v result w

-- Names are read in turn up to the end of their list, which follow so many pointers at most in all, and each is written after the
-- one before.
pub data WritesNames : Decoder → ℕ → Encoder → ℕ → Encoder → Type 0 where
  none : (d : Decoder) (left : ℕ) (v : Encoder) → d.index ≡ length d.bytes → WritesNames d left v 0 v
  more : (d next : Decoder) (most left : ℕ) (labels : List (List ℕ)) (v m w : Encoder) (count : ℕ)
      → TakesNextName d most labels next left → WritesName labels v (Ok tt) m → WritesNames next left m count w
      → WritesNames d most v (count + 1) w

-- The next name of a list fails: it cannot be read, or it cannot be written.
pub data FailsToCopyName (d : Decoder) (most : ℕ) (v : Encoder) : Failure → Type 0 where
  unread : (failure : Failure) → IsNoNextName d most failure → FailsToCopyName d most v failure
  unwritten : (labels : List (List ℕ)) (next : Decoder) (left : ℕ) (w : Encoder) (error : ProtoError)
      → TakesNextName d most labels next left → WritesName labels v (Err error) w → FailsToCopyName d most v (of_proto error)

-- Names are read and written in turn up to one that fails.
pub data StopsWriting : Decoder → ℕ → Encoder → Failure → Type 0 where
  here : (d : Decoder) (most : ℕ) (v : Encoder) (failure : Failure)
      → d.index < length d.bytes → FailsToCopyName d most v failure → StopsWriting d most v failure
  later : (d next : Decoder) (most left : ℕ) (labels : List (List ℕ)) (v m : Encoder) (failure : Failure)
      → TakesNextName d most labels next left → WritesName labels v (Ok tt) m → StopsWriting next left m failure
      → StopsWriting d most v failure

-- A message of the names of a list is put. They follow 65,536 pointers at most.
abbrev pub WritesList : List ℕ → ℕ → List ℕ → List ℕ → Result WrittenNames Failure → Type 0
WritesList list max_size old new result =
    ((count : ℕ) × (w : Encoder) × WritesNames (at_first list) max_pointers (limited_to max_size) count w
    × Puts w.bytes (record { len = length w.bytes; count = count }) old new result)
    ⊎ Refuses (StopsWriting (at_first list) max_pointers (limited_to max_size)) old new result

-- Lists of type codes, and the bitmaps that stand for them (RFC 4034, section 4.1.2).
use Rattle.std.specs.Prelude.{◌≡◌, ◌<◌, ◌≤◌, ◌⊎◌, ℕ, List, length, map, true, false, Result}
use Rattle.dnw_base.specs.declared.record_type.RecordType.{RecordType}
use Rattle.dnw_base.specs.RecordTypes.{type_code, type_of_code}
use Rattle.dnw_base.specs.Limits.{max_message}
use Rattle.dnw_data.specs.TypeSets.{IsSetOf, Encodes, bitmap_types, in_bounds, set_codes, windows_of}
use Rattle.dnw_data.specs.SetLaws.{most_types}
use Rattle.dnw_c_base.specs.Results.{Puts, PutsWithin, Refuses}
use Rattle.dnw_c_base.specs.declared.failure.Failure.{Failure}
use Rattle.dnw_c_base.specs.declared.failure.Failure.TheVariants.{NoMemory, BadBitmap}

-- The codes are those that a bitmap lists, each once, in ascending order.
abbrev pub AreListed : List ℕ → List ℕ → Type 0
AreListed bitmap codes = (types : List RecordType) × IsSetOf (bitmap_types bitmap) types × (codes ≡ map type_code types)

-- the octets are the data of a record, and in bounds
abbrev pub IsBitmap : List ℕ → Type 0
IsBitmap bitmap = (length bitmap ≤ max_message) × (in_bounds (windows_of bitmap) ≡ true)

-- The octets are no bitmap: they are more than a record has, or out of bounds.
abbrev pub IsNoBitmap : List ℕ → Type 0
IsNoBitmap bitmap = (max_message < length bitmap) ⊎ (in_bounds (windows_of bitmap) ≡ false)

-- A bitmap is not read: it is none, or memory ran out.
abbrev pub FailsToList : List ℕ → Failure → Type 0
FailsToList bitmap failure =
    (IsNoBitmap bitmap × (failure ≡ BadBitmap)) ⊎ (IsBitmap bitmap × (1 ≤ length bitmap) × (failure ≡ NoMemory))

-- The codes that a bitmap lists are put.
abbrev pub PutsTypes : List ℕ → List ℕ → List ℕ → Result ℕ Failure → Type 0
PutsTypes bitmap old new result =
    ((codes : List ℕ) × IsBitmap bitmap × AreListed bitmap codes × PutsWithin (most_types bitmap) codes (length codes) old new result)
    ⊎ Refuses (FailsToList bitmap) old new result

-- The octets are a bitmap of these codes, in any order and any number of times, and no longer than needed.
abbrev pub IsBitmapOf : List ℕ → List ℕ → Type 0
IsBitmapOf codes bitmap = (types : List RecordType) × IsSetOf (map type_of_code codes) types × Encodes (set_codes types) bitmap

-- A bitmap of codes is put, unless there are some and memory ran out.
abbrev pub PutsBitmap : List ℕ → List ℕ → List ℕ → Result ℕ Failure → Type 0
PutsBitmap codes old new result =
    ((bitmap : List ℕ) × IsBitmapOf codes bitmap × Puts bitmap (length bitmap) old new result)
    ⊎ Refuses (λ failure. (1 ≤ length codes) × (failure ≡ NoMemory)) old new result

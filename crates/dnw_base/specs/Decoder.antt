-- What a contract sees of a decoder, and what a read does to it.
use Rattle.std.specs.Prelude.{◌≡◌, ℕ, ◌+◌, ◌≤◌, List, length, slice_range, Result, Ok, Err}
use Rattle.dnw_base.specs.declared.error.DecodeError.{DecodeError}
use Rattle.dnw_base.specs.declared.error.DecodeError.TheVariants.{InsufficientBytes, Memory}

-- A decoder: the whole message, and the index of the next octet, its cursor.
pub record Decoder : Type 0 where
  pub bytes : List ℕ
  pub index : ℕ

-- n octets are left
abbrev pub HasLeft : Decoder → ℕ → Type 0
HasLeft d n = d.index + n ≤ length d.bytes

-- the next n octets
abbrev pub next_bytes : Decoder → ℕ → List ℕ
next_bytes d n = slice_range d.bytes d.index (d.index + n)

-- the decoder n octets further on
abbrev pub advanced : Decoder → ℕ → Decoder
advanced d n = record { bytes = d.bytes; index = d.index + n }

-- A read of n octets. If they are left, it returns what `Gives` says and moves past them. Else it fails with
-- `InsufficientBytes`, and the decoder is unchanged.
abbrev pub Takes : {A : Type 0} → Decoder → ℕ → (A → Type 0) → Result A DecodeError → Decoder → Type 0
Takes before n Gives (Ok x) after = HasLeft before n × Gives x × (after ≡ advanced before n)
Takes before n Gives (Err InsufficientBytes) after = (¬ (HasLeft before n)) × (after ≡ before)
Takes before n Gives (Err error) after = ⊥

-- The same into a copy, which may run out of memory unless it is empty. Then the decoder is unchanged.
abbrev pub TakesCopy : {A : Type 0} → Decoder → ℕ → (A → Type 0) → Result A DecodeError → Decoder → Type 0
TakesCopy before n Gives (Err Memory) after = HasLeft before n × (1 ≤ n) × (after ≡ before)
TakesCopy before n Gives result after = Takes before n Gives result after

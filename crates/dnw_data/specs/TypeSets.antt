-- Sets of record types, and the bitmaps that stand for them on the wire (RFC 4034, section 4.1.2).
use Rattle.std.specs.Prelude.{◌≡◌, ◌≢◌, ℕ, zero, suc, ◌+◌, ◌-◌, ◌*◌, ◌/◌, ◌%◌, ◌<◌, ◌≤◌, ◌⊎◌, ◌==◌, ◌||◌, ◌&&◌, Bool, true, false, nat_le, nat_eq, List, [], ◌∷◌, ◌++◌, length, map, Option, Some, ⊤, if◌then◌else◌, take, drop, slice_index, Contains}
use Rattle.std.specs.List.{flat_map, list_all, dedup, AllByRecursion}
use Rattle.std.specs.List.Sorted.{IsStrictlySortedBy}
use Rattle.std.specs.Int.{bit_at}
use Rattle.dnw_base.specs.declared.record_type.RecordType.{RecordType}
use Rattle.dnw_base.specs.Limits.{max_window}
use Rattle.dnw_base.specs.RecordTypes.{type_cmp, type_code, type_of_code}

-- A set of record types: its types in ascending order, and the bytes that it is written as.
pub record TypeSet : Type 0 where
  pub types : List RecordType
  pub encoding : List ℕ

-- the set has a type or is written as some bytes, which are allocated
abbrev pub HasOwnMemory : TypeSet → Type 0
HasOwnMemory set = (1 ≤ length set.types) ⊎ (1 ≤ length set.encoding)

-- the first call of `next` returns an item
abbrev pub YieldsSome : {S A : Type 0} → (S → Option A → S → Type 0) → S → Type 0
YieldsSome {S} {A} next it = (x : A) × (after : S) × next it (Some x) after

-- the set of these types: each once, in ascending order
pub record IsSetOf (listed types : List RecordType) : Type 0 where
  pub ascending : IsStrictlySortedBy type_cmp types
  pub all : (record_type : RecordType) → Contains listed record_type → Contains types record_type
  pub no_others : (record_type : RecordType) → Contains types record_type → Contains listed record_type

-- the codes of types in ascending order, each once
abbrev pub set_codes : List RecordType → List ℕ
set_codes types = dedup nat_eq (map type_code types)

-- ---- windows

-- the codes of a window
abbrev pub window_size : ℕ
window_size = 256

-- A window: its number, and the octets of its bitmap.
pub record Window : Type 0 where
  pub number : ℕ
  pub octets : List ℕ

abbrev pub window : ℕ → List ℕ → Window
window number octets = record { number = number; octets = octets }

-- the bits of an octet, from the highest
abbrev pub bits : List ℕ
bits = 0 ∷ 1 ∷ 2 ∷ 3 ∷ 4 ∷ 5 ∷ 6 ∷ 7 ∷ []

-- the code of a bit, if it is set in an octet of which the highest bit stands for the code `first`
abbrev pub bit_codes : ℕ → ℕ → ℕ → List ℕ
bit_codes first octet bit = if bit_at octet (7 - bit) == 1 then (first + bit) ∷ [] else []

abbrev pub octet_codes : ℕ → ℕ → List ℕ
octet_codes first octet = flat_map (bit_codes first octet) bits

-- the codes whose bits are set in octets, of which the first begins with the code `first`
abbrev pub octets_codes : ℕ → List ℕ → List ℕ
octets_codes first [] = []
octets_codes first (octet ∷ octets) = octet_codes first octet ++ octets_codes (first + 8) octets

-- the codes of a window
abbrev pub window_codes : Window → List ℕ
window_codes w = octets_codes (window_size * w.number) (take max_window w.octets)

abbrev pub windows_codes : List Window → List ℕ
windows_codes ws = flat_map window_codes ws

-- a window as it is written: its number, the number of its octets, and those
abbrev pub window_bytes : Window → List ℕ
window_bytes w = w.number ∷ length w.octets ∷ w.octets

-- the bytes end within the window: after its number, or before the last of its octets
abbrev pub EndWithin : Window → List ℕ → Type 0
EndWithin w bytes =
    ((bytes ≡ w.number ∷ []) × (w.octets ≡ [])) ⊎ ((len : ℕ) × (bytes ≡ w.number ∷ len ∷ w.octets) × (length w.octets < len))

-- the bytes are these windows, one after the other, of which the last may be cut
abbrev pub AreWindows : List Window → List ℕ → Type 0
AreWindows [] bytes = bytes ≡ []
AreWindows (w ∷ ws) bytes =
    (EndWithin w bytes × (ws ≡ [])) ⊎ ((rest : List ℕ) × (bytes ≡ window_bytes w ++ rest) × AreWindows ws rest)

-- The window has the bit of the code: it is the window of that code, its octets have eight codes each, and the first of
-- them is the highest bit.
pub record HasBit (code : ℕ) (w : Window) : Type 0 where
  pub number : w.number ≡ code / window_size
  pub bit : bit_at (slice_index w.octets (code % window_size / 8)) (7 - code % 8) ≡ 1

-- ---- reading

-- the windows of at most so many octets; `AreWindows` says what they are
abbrev pub windows_within : ℕ → List ℕ → List Window
windows_within zero bytes = []
windows_within (suc n) [] = []
windows_within (suc n) (number ∷ []) = window number [] ∷ []
windows_within (suc n) (number ∷ len ∷ bytes) = window number (take len bytes) ∷ windows_within n (drop len bytes)

unfoldable pub windows_of : List ℕ → List Window
windows_of bytes = windows_within (length bytes) bytes

abbrev pub is_empty : List Window → Bool
is_empty [] = true
is_empty (w ∷ ws) = false

-- no bit is set after the codes of a window
abbrev pub ends_in_zeros : List ℕ → Bool
ends_in_zeros octets = list_all (λ octet. octet == 0) (drop max_window octets)

-- No window but the last is without octets, and none has a bit after its codes.
abbrev pub in_bounds : List Window → Bool
in_bounds [] = true
in_bounds (w ∷ ws) = (nat_le 1 (length w.octets) || is_empty ws) && ends_in_zeros w.octets && in_bounds ws

-- the types that a bitmap lists
abbrev pub bitmap_types : List ℕ → List RecordType
bitmap_types bytes = map type_of_code (windows_codes (windows_of bytes))

-- ---- writing

-- the last octet has a bit, so no octet can be left out
abbrev pub EndsInBit : List ℕ → Type 0
EndsInBit [] = ⊤
EndsInBit (octet ∷ []) = octet ≢ 0
EndsInBit (octet ∷ next ∷ octets) = EndsInBit (next ∷ octets)

-- Each window is written once, and they ascend.
abbrev pub NumbersFrom : ℕ → List Window → Type 0
NumbersFrom least [] = ⊤
NumbersFrom least (w ∷ ws) = (least ≤ w.number) × NumbersFrom (w.number + 1) ws

-- a window that is written: it has octets, no more than its codes need, and the last of them has a bit, so it lists a code
pub record IsWritten (w : Window) : Type 0 where
  pub some : 1 ≤ length w.octets
  pub few : length w.octets ≤ max_window
  pub no_longer : EndsInBit w.octets

-- These bytes stand for the codes: the windows of the codes one after the other.
pub record Encodes (codes bytes : List ℕ) : Type 0 where
  pub windows : List Window
  pub spelled : bytes ≡ flat_map window_bytes windows
  pub ascending : NumbersFrom 0 windows
  pub written : AllByRecursion IsWritten windows
  pub same : windows_codes windows ≡ codes

-- What follows from the definitions of type sets. Each is the clause of a public function, and so proved.
use Rattle.std.specs.Prelude.{◌≡◌, ◌↔◌, ℕ, ◌*◌, ◌≤◌, true, List, length, Contains}
use Rattle.std.specs.List.{Any}
use Rattle.dnw_base.specs.declared.record_type.RecordType.{RecordType}
use Rattle.dnw_data.specs.TypeSets.{AreWindows, Encodes, HasBit, IsSetOf, Window, bitmap_types, windows_of, windows_codes, in_bounds}

-- The bytes that stand for codes are a bitmap in bounds that lists these codes and no others.
abbrev pub SetsComeBack : Type 0
SetsComeBack = (codes bytes : List ℕ) → Encodes codes bytes
    → (in_bounds (windows_of bytes) ≡ true) × (windows_codes (windows_of bytes) ≡ codes)

-- The windows of a bitmap are those that its bytes are, one after the other, and no others.
abbrev pub BitmapsAreWindows : Type 0
BitmapsAreWindows = (bytes : List ℕ) (ws : List Window) → AreWindows ws bytes ↔ (windows_of bytes ≡ ws)

-- Windows list a code exactly if one of them has its bit.
abbrev pub WindowsListBits : Type 0
WindowsListBits = (ws : List Window) (code : ℕ) → Contains (windows_codes ws) code ↔ Any (HasBit code) ws

-- the most types that bytes list as a bitmap: each has a bit for eight of them
abbrev pub most_types : List ℕ → ℕ
most_types bytes = 8 * length bytes

-- A bitmap lists no more types than its octets have bits.
abbrev pub BitmapsListFew : Type 0
BitmapsListFew = (bytes : List ℕ) (types : List RecordType) → IsSetOf (bitmap_types bytes) types → length types ≤ most_types bytes

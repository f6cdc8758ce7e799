-- A bitmap window by window.
use Rattle.std.specs.Prelude.{◌≡◌, ℕ, ◌<◌, ◌==◌, ◌||◌, ◌&&◌, ◌+◌, ◌≤◌, ⊤, Bool, nat_le, ◌*◌, ◌-◌, ◌^◌, ◌%◌, List, [], ◌∷◌, ◌++◌, length, if◌then◌else◌, bit_or}
use Rattle.dnw_data.specs.TypeSets.{window, window_bytes, windows_of, ends_in_zeros, octets_codes, EndsInBit}

-- the first window of a bitmap has this number and these octets, and these bytes follow it
abbrev pub SplitsWindow : List ℕ → ℕ → List ℕ → List ℕ → Type 0
SplitsWindow bytes number octets others =
    (windows_of bytes ≡ window number octets ∷ windows_of others) × (length others < length bytes)

-- a window of these octets that these bytes follow is in bounds
abbrev pub window_fits : List ℕ → List ℕ → Bool
window_fits octets others = (nat_le 1 (length octets) || length others == 0) && ends_in_zeros octets

-- the codes ascend, from this one on
abbrev pub Above : ℕ → List ℕ → Type 0
Above least [] = ⊤
Above least (code ∷ codes) = (least ≤ code) × Above (code + 1) codes

abbrev pub code_if : Bool → ℕ → List ℕ
code_if set code = if set then code ∷ [] else []

-- an octet with a bit set, or as it is
abbrev pub with_bit : Bool → ℕ → ℕ → ℕ
with_bit set octet bit = if set then bit_or octet (1 * 2 ^ (7 - bit) % 2 ^ 8) else octet

-- a window is appended that has these octets up to the last one with a bit
abbrev pub PushesWindow : ℕ → List ℕ → List ℕ → List ℕ → Type 0
PushesWindow number octets old new =
    (used : List ℕ) × (new ≡ old ++ window_bytes (window number used)) × (length used ≤ length octets)
    × ((first : ℕ) → octets_codes first used ≡ octets_codes first octets) × EndsInBit used

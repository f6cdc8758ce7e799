-- Octets without a line feed, and what is after one.
use Rattle.std.specs.Prelude.{◌≡◌, ℕ, ◌+◌, ◌==◌, Bool, not, List, length}
use Rattle.dnw_zone_file.specs.Places.{place_from}

-- No line feed is there: a place after the octets is in the same line.
abbrev pub IsInLine : List ℕ → Type 0
IsInLine text = (line column : ℕ) → place_from (record { line = line; column = column }) text ≡ record { line = line; column = column + length text }

-- This is after the first line feed.
abbrev pub BeginsWithLine : List ℕ → List ℕ → Type 0
BeginsWithLine text rest =
    (line column : ℕ) → place_from (record { line = line; column = column }) text ≡ place_from (record { line = line + 1; column = 0 }) rest

-- What is before this has no line feed.
abbrev pub IsInLineUpTo : List ℕ → List ℕ → Type 0
IsInLineUpTo left text =
    (line column len : ℕ) → len + length left ≡ length text
    → place_from (record { line = line; column = column }) text ≡ place_from (record { line = line; column = column + len }) left

abbrev pub is_no_feed : ℕ → Bool
is_no_feed c = not (c == 10)

-- Digits of a text, four at a time.
use Rattle.std.specs.Prelude.{◌≤◌, length, map, ℕ, ◌+◌, ◌*◌, nat_lt, if◌then◌else◌, List, [], ◌∷◌, ◌++◌, Option, Some, None, slice_index}
use Rattle.std.specs.List.{list_all}
use Rattle.base64.specs.Engines.{standard}
use Rattle.dnw_zone_values.specs.Base32.{base32_octets, base32_value, is_base32}
use Rattle.dnw_zone_values.specs.Octets.{IsBase64Text}

-- the number of a digit of base 32
abbrev pub base32_digit_value : ℕ → Option ℕ
base32_digit_value c = if is_base32 c then Some (base32_value c) else None

-- the octets of a text in base 32, if each character is a digit
abbrev pub digits_octets : List ℕ → Option (List ℕ)
digits_octets text = if list_all is_base32 text then base32_octets (map base32_value text) else None

-- the number of a digit of base 64
abbrev pub base64_digit_value : ℕ → Option ℕ
base64_digit_value c =
    if nat_lt (slice_index standard.decode_table c) 64 then Some (slice_index standard.decode_table c) else None

-- the places of four digits
abbrev pub hexadecimal_places : List ℕ
hexadecimal_places = 4096 ∷ 256 ∷ 16 ∷ 1 ∷ []

abbrev pub base32_places : List ℕ
base32_places = 32768 ∷ 1024 ∷ 32 ∷ 1 ∷ []

abbrev pub base64_places : List ℕ
base64_places = 262144 ∷ 4096 ∷ 64 ∷ 1 ∷ []

-- the number of a digit in its place, or for what is none one that four digits do not make
abbrev pub in_place : ℕ → Option ℕ → ℕ
in_place unit (Some n) = n * unit
in_place unit None = 16777216

-- the number of four digits, of which the first three have these places, if each is one
abbrev pub number_of_four : ℕ → ℕ → ℕ → Option ℕ → Option ℕ → Option ℕ → Option ℕ → Option ℕ
number_of_four u v w (Some a) (Some b) (Some c) (Some d) = Some (a * u + b * v + c * w + d)
number_of_four u v w a b c d = None

-- The text begins with these octets in base 64 without padding, and this is left of it.
pub record BeginsBase64 (text own left : List ℕ) : Type 0 where
  pub spells : (octets : List ℕ) → IsBase64Text left octets → IsBase64Text text (own ++ octets)
  pub only : (octets : List ℕ) → IsBase64Text text octets → (others : List ℕ) × IsBase64Text left others
  pub within : length left ≤ length text

-- Octets in base 32 with the extended hex alphabet (RFC 4648, section 7), without padding, as the hashed names of NSEC3 are
-- written (RFC 5155, section 3.3): eight digits for five octets, and two, four, five or seven for one to four.
use Rattle.std.specs.Prelude.{ℕ, ◌≡◌, ◌≤◌, ◌+◌, ◌-◌, ◌*◌, ◌/◌, ◌%◌, ◌==◌, ◌&&◌, ◌||◌, Bool, nat_lt, nat_le, if◌then◌else◌, List, [], ◌∷◌, ◌++◌, length, map, Option, Some, None, option_map}
use Rattle.std.specs.List.{AllPass}
use Rattle.dnw_zone_values.specs.Octets.{IsOctets}

-- the digit of a number below 32
abbrev pub base32_digit : ℕ → ℕ
base32_digit n = if nat_lt n 10 then 48 + n else 55 + n

-- the digits of five octets
abbrev pub base32_five : ℕ → ℕ → ℕ → ℕ → ℕ → List ℕ
base32_five a b c d e =
    base32_digit (a / 8) ∷ base32_digit (a % 8 * 4 + b / 64) ∷ base32_digit (b / 2 % 32) ∷ base32_digit (b % 2 * 16 + c / 16)
    ∷ base32_digit (c % 16 * 2 + d / 128) ∷ base32_digit (d / 4 % 32) ∷ base32_digit (d % 4 * 8 + e / 32) ∷ base32_digit (e % 32) ∷ []

-- the octets in base 32, with zeros for the bits that are left of the last digit
abbrev pub base32_text : List ℕ → List ℕ
base32_text [] = []
base32_text (a ∷ []) = base32_digit (a / 8) ∷ base32_digit (a % 8 * 4) ∷ []
base32_text (a ∷ b ∷ []) =
    base32_digit (a / 8) ∷ base32_digit (a % 8 * 4 + b / 64) ∷ base32_digit (b / 2 % 32) ∷ base32_digit (b % 2 * 16) ∷ []
base32_text (a ∷ b ∷ c ∷ []) =
    base32_digit (a / 8) ∷ base32_digit (a % 8 * 4 + b / 64) ∷ base32_digit (b / 2 % 32) ∷ base32_digit (b % 2 * 16 + c / 16)
    ∷ base32_digit (c % 16 * 2) ∷ []
base32_text (a ∷ b ∷ c ∷ d ∷ []) =
    base32_digit (a / 8) ∷ base32_digit (a % 8 * 4 + b / 64) ∷ base32_digit (b / 2 % 32) ∷ base32_digit (b % 2 * 16 + c / 16)
    ∷ base32_digit (c % 16 * 2 + d / 128) ∷ base32_digit (d / 4 % 32) ∷ base32_digit (d % 4 * 8) ∷ []
base32_text (a ∷ b ∷ c ∷ d ∷ e ∷ octets) = base32_five a b c d e ++ base32_text octets

-- a digit, in either case
abbrev pub is_base32 : ℕ → Bool
is_base32 c = (nat_le 48 c && nat_le c 57) || (nat_le 65 c && nat_le c 86) || (nat_le 97 c && nat_le c 118)

-- the number of a digit
abbrev pub base32_value : ℕ → ℕ
base32_value c = if nat_le c 57 then (c - 48) % 32 else if nat_le c 86 then (c - 55) % 32 else (c - 87) % 32

-- these octets, if the bits that are left of the last digit are zeros
abbrev pub if_zero : ℕ → List ℕ → Option (List ℕ)
if_zero left octets = if left == 0 then Some octets else None

-- the octets of the numbers of digits
abbrev pub base32_first : ℕ → ℕ → ℕ
base32_first a b = a * 8 + b / 4

abbrev pub base32_second : ℕ → ℕ → ℕ → ℕ
base32_second b c d = b % 4 * 64 + c * 2 + d / 16

abbrev pub base32_third : ℕ → ℕ → ℕ
base32_third d e = d % 16 * 16 + e / 2

abbrev pub base32_fourth : ℕ → ℕ → ℕ → ℕ
base32_fourth e f g = e % 2 * 128 + f * 4 + g / 8

abbrev pub base32_fifth : ℕ → ℕ → ℕ
base32_fifth g h = g % 8 * 32 + h

abbrev pub base32_octets : List ℕ → Option (List ℕ)
base32_octets [] = Some []
base32_octets (a ∷ []) = None
base32_octets (a ∷ b ∷ []) = if_zero (b % 4) (base32_first a b ∷ [])
base32_octets (a ∷ b ∷ c ∷ []) = None
base32_octets (a ∷ b ∷ c ∷ d ∷ []) = if_zero (d % 16) (base32_first a b ∷ base32_second b c d ∷ [])
base32_octets (a ∷ b ∷ c ∷ d ∷ e ∷ []) = if_zero (e % 2) (base32_first a b ∷ base32_second b c d ∷ base32_third d e ∷ [])
base32_octets (a ∷ b ∷ c ∷ d ∷ e ∷ f ∷ []) = None
base32_octets (a ∷ b ∷ c ∷ d ∷ e ∷ f ∷ g ∷ []) =
    if_zero (g % 8) (base32_first a b ∷ base32_second b c d ∷ base32_third d e ∷ base32_fourth e f g ∷ [])
base32_octets (a ∷ b ∷ c ∷ d ∷ e ∷ f ∷ g ∷ h ∷ rest) =
    option_map (λ own. (base32_first a b ∷ base32_second b c d ∷ base32_third d e ∷ base32_fourth e f g ∷ base32_fifth g h ∷ []) ++ own) (base32_octets rest)

-- a hashed name has 1 to 255 octets (RFC 5155, section 3.2)
abbrev pub IsHash : List ℕ → Type 0
IsHash hash = IsOctets hash × (1 ≤ length hash) × (length hash ≤ 255)

-- the text is this hashed name
abbrev pub IsHashText : List ℕ → List ℕ → Type 0
IsHashText text hash =
    AllPass is_base32 text × (base32_octets (map base32_value text) ≡ Some hash) × (1 ≤ length hash) × (length hash ≤ 255)

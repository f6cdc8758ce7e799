-- Octets as pairs of hexadecimal digits with a hyphen between two pairs, as identifiers of hardware are written (RFC 7043,
-- sections 3.2 and 4.2). Digits are in either case, and printed in lower case as there.
use Rattle.std.specs.Prelude.{ℕ, ◌≡◌, ◌≤◌, ◌+◌, ◌-◌, ◌*◌, ◌/◌, ◌%◌, ◌==◌, ◌&&◌, nat_lt, nat_le, if◌then◌else◌, List, [], ◌∷◌, length, Option, Some, None}
use Rattle.std.specs.Char.{is_ascii_hexdigit}
use Rattle.dnw_zone_values.specs.Octets.{IsOctets}
use Rattle.dnw_zone_values.specs.Strings.{with_octet}

-- an identifier has an octet or more
abbrev pub IsIdentifier : List ℕ → Type 0
IsIdentifier octets = IsOctets octets × (1 ≤ length octets)

abbrev pub hyphen : ℕ
hyphen = 45

-- the digit of a number below 16
abbrev pub lower_digit : ℕ → ℕ
lower_digit n = if nat_lt n 10 then 48 + n else 87 + n

abbrev pub pair_text : ℕ → List ℕ
pair_text o = lower_digit (o / 16) ∷ lower_digit (o % 16) ∷ []

abbrev pub pairs_text : List ℕ → List ℕ
pairs_text [] = []
pairs_text (o ∷ []) = lower_digit (o / 16) ∷ lower_digit (o % 16) ∷ []
pairs_text (o ∷ p ∷ octets) = lower_digit (o / 16) ∷ lower_digit (o % 16) ∷ hyphen ∷ pairs_text (p ∷ octets)

-- the number of a digit
abbrev pub digit_of : ℕ → ℕ
digit_of c = if nat_le c 57 then c - 48 else if nat_le c 70 then c - 55 else c - 87

-- the octet of two digits, if they are that
abbrev pub pair_octet : ℕ → ℕ → Option ℕ
pair_octet a b = if is_ascii_hexdigit a && is_ascii_hexdigit b then Some (16 * digit_of a + digit_of b) else None

-- the octet before others, if there is one
abbrev pub with_front : Option ℕ → Option (List ℕ) → Option (List ℕ)
with_front None octets = None
with_front (Some o) octets = with_octet o octets

-- the octets of pairs
abbrev pub pairs_octets : List ℕ → Option (List ℕ)
pairs_octets [] = None
pairs_octets (a ∷ []) = None
pairs_octets (a ∷ b ∷ []) = with_front (pair_octet a b) (Some [])
pairs_octets (a ∷ b ∷ c ∷ rest) = if c == hyphen then with_front (pair_octet a b) (pairs_octets rest) else None

-- the text is these octets, one or more
abbrev pub IsPairsText : List ℕ → List ℕ → Type 0
IsPairsText text octets = pairs_octets text ≡ Some octets

-- Character strings as text (RFC 1035, section 5.1): a string is written in quotes, or as it is if it has no white space;
-- `\DDD` with three decimal digits stands for that octet, and `\` and any other character for that character. A string is binary
-- (RFC 1035, section 3.3): any other octet, also one above 127, stands for itself.
use Rattle.std.specs.Prelude.{◌≡◌, ◌≤◌, ℕ, ◌+◌, ◌-◌, ◌*◌, ◌/◌, ◌%◌, Bool, true, false, ◌&&◌, ◌||◌, ◌==◌, nat_le, nat_lt, if◌then◌else◌, List, [], ◌∷◌, ◌++◌, length, flat_map, Option, Some, None, option_map}
use Rattle.std.specs.Char.{is_ascii_digit}
use Rattle.dnw_zone_values.specs.Octets.{IsOctets}

-- the characters of the rules
abbrev pub quote : ℕ
quote = 34

abbrev pub backslash : ℕ
backslash = 92

-- a string has at most 255 octets, since their number is written in one (RFC 1035, section 3.3)
abbrev pub IsString : List ℕ → Type 0
IsString string = IsOctets string × (length string ≤ 255)

-- a text that has no length octet has at most as many octets as data have (RFC 1035, section 3.2.1)
abbrev pub IsText : List ℕ → Type 0
IsText text = IsOctets text × (length text ≤ 65535)

-- an octet in decimal, after a backslash
abbrev pub escape_text : ℕ → List ℕ
escape_text o = backslash ∷ (48 + o / 100) ∷ (48 + o / 10 % 10) ∷ (48 + o % 10) ∷ []

-- An octet in quotes: a quote and a backslash after a backslash, a printable character as it is, any other in decimal.
abbrev pub octet_text : ℕ → List ℕ
octet_text o =
    if o == quote || o == backslash then backslash ∷ o ∷ []
    else if nat_le 32 o && nat_le o 126 then o ∷ []
    else escape_text o

abbrev pub string_text : List ℕ → List ℕ
string_text string = quote ∷ flat_map octet_text string ++ quote ∷ []

-- where the next character is: outside an escape, after its backslash, or after one or two of its digits
pub data EscapeState : Type 0 where
  Plain : EscapeState
  Escaped : EscapeState
  AfterOne : (a : ℕ) → EscapeState
  AfterTwo : (a b : ℕ) → EscapeState

abbrev pub with_octet : ℕ → Option (List ℕ) → Option (List ℕ)
with_octet o octets = option_map (λ own. o ∷ own) octets

-- A text that is quoted ends with a quote, and has no other but after a backslash.
abbrev pub at_end : List ℕ → Option (List ℕ)
at_end [] = Some []
at_end (c ∷ cs) = None

-- the octets of a text, in quotes or not, from where the next character is
abbrev pub octets_from : Bool → EscapeState → List ℕ → Option (List ℕ)
octets_from quoted Plain [] = if quoted then None else Some []
octets_from quoted Plain (c ∷ cs) =
    if quoted && (c == quote) then at_end cs
    else if c == backslash then octets_from quoted Escaped cs
    else with_octet c (octets_from quoted Plain cs)
octets_from quoted state [] = None
octets_from quoted Escaped (c ∷ cs) =
    if is_ascii_digit c then octets_from quoted (AfterOne (c - 48)) cs else with_octet c (octets_from quoted Plain cs)
octets_from quoted (AfterOne a) (c ∷ cs) = if is_ascii_digit c then octets_from quoted (AfterTwo a (c - 48)) cs else None
octets_from quoted (AfterTwo a b) (c ∷ cs) =
    if is_ascii_digit c && nat_lt (100 * a + 10 * b + (c - 48)) 256
    then with_octet (100 * a + 10 * b + (c - 48)) (octets_from quoted Plain cs)
    else None

-- the octets of a token's text
abbrev pub string_octets : List ℕ → Option (List ℕ)
string_octets [] = None
string_octets (c ∷ cs) = if c == quote then octets_from true Plain cs else octets_from false Plain (c ∷ cs)

-- the text is these octets, of which there are at most so many
abbrev pub IsTextWithin : ℕ → List ℕ → List ℕ → Type 0
IsTextWithin max text octets = (string_octets text ≡ Some octets) × (length octets ≤ max)

-- the text is this string
abbrev pub IsStringText : List ℕ → List ℕ → Type 0
IsStringText text string = IsTextWithin 255 text string

-- the text is this value, which has no length octet and ends with the data (RFC 8659, section 4.1.1, and RFC 7553, section
-- 4.4); so it has at most as many octets as data have (RFC 1035, section 3.2.1)
abbrev pub IsLongText : List ℕ → List ℕ → Type 0
IsLongText text octets = IsTextWithin 65535 text octets

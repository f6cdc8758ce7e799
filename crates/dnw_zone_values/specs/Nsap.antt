-- Addresses of NSAP (RFC 1706, section 5): `0x`, and two hexadecimal digits for each octet, in either case. Dots may be anywhere among
-- the digits, and mean nothing; none is printed.
use Rattle.std.specs.Prelude.{ℕ, ◌≡◌, ◌==◌, Bool, not, List, ◌∷◌, take, drop, codes}
use Rattle.std.specs.List.{filter}
use Rattle.hex.specs.Hex.{encode_lower}
use Rattle.dnw_zone_values.specs.Octets.{IsHexText}

abbrev pub dot : ℕ
dot = 46

abbrev pub is_no_dot : ℕ → Bool
is_no_dot c = not (c == dot)

-- the text is these octets
abbrev pub IsNsapText : List ℕ → List ℕ → Type 0
IsNsapText text own = (take 2 text ≡ codes "0x") × IsHexText (filter is_no_dot (drop 2 text)) own

abbrev pub nsap_text : List ℕ → List ℕ
nsap_text own = 48 ∷ 120 ∷ encode_lower own

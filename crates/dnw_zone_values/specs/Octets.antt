-- Octets as text: in hexadecimal (RFC 4648, section 8), which RFC 4034, section 5.3, and others print, and in base 64
-- (RFC 4648, section 4), which RFC 4034, section 2.2, and others print.
use Rattle.std.specs.Prelude.{◌≡◌, ◌≤◌, ◌⊎◌, List, [], ◌∷◌, ℕ, length, codes, Ok}
use Rattle.hex.specs.Hex.{encode_upper, decode_of, IsBytes}
use Rattle.base64.specs.GeneralPurpose.{encode_of}
use Rattle.base64.specs.Engines.{standard}

-- each is an octet
abbrev pub IsOctets : List ℕ → Type 0
IsOctets octets = IsBytes octets

-- two digits for each octet, in upper case
abbrev pub hex_text : List ℕ → List ℕ
hex_text octets = encode_upper octets

-- the text is two digits for each octet, in either case
abbrev pub IsHexText : List ℕ → List ℕ → Type 0
IsHexText text octets = decode_of text ≡ Ok octets

-- four symbols for three octets, and padding at the end
abbrev pub base64_text : List ℕ → List ℕ
base64_text octets = encode_of standard octets

-- the text is these octets in base 64
abbrev pub IsBase64Text : List ℕ → List ℕ → Type 0
IsBase64Text text octets = IsOctets octets × (text ≡ base64_text octets)

-- a salt has at most 255 octets, since their number is written in one (RFC 5155, section 3.2)
abbrev pub IsSalt : List ℕ → Type 0
IsSalt salt = IsOctets salt × (length salt ≤ 255)

-- the salt of NSEC3 in hexadecimal, or `-` for none (RFC 5155, section 3.3)
abbrev pub salt_text : List ℕ → List ℕ
salt_text [] = codes "-"
salt_text (o ∷ octets) = hex_text (o ∷ octets)

-- the text is `-`, or at least one octet in hexadecimal
abbrev pub IsSaltText : List ℕ → List ℕ → Type 0
IsSaltText text salt =
    ((text ≡ codes "-") × (salt ≡ [])) ⊎ (IsHexText text salt × (1 ≤ length salt) × (length salt ≤ 255))

-- What is printed of an address of NSAP is parsed as it, and as no other.
use Rattle.std.proofs.Common.{◌≡◌, ℕ, suc, ◌+◌, ◌/◌, ◌%◌, ◌<◌, true, List, [], ◌∷◌, ◌++◌, length, take, slice_index, Ok, refl, sym, ap, ◌∙◌, arith}
use Rattle.std.specs.List.{filter}
use Rattle.std.proofs.lemmas.List.{take_more}
use Rattle.hex.specs.Hex.{encode_with, encode_lower, lower_digits}
use Rattle.hex.proofs.HexLemmas.{decode_of-encode_lower}
use Rattle.dnw_zone_values.specs.Octets.{IsOctets, IsHexText}
use Rattle.dnw_zone_values.specs.Nsap.{is_no_dot, nsap_text, IsNsapText}
use Rattle.dnw_zone_values.specs.Spelling.{ComesBack}
use Rattle.dnw_zone_values.proofs.HexText.{encode_with_append}

-- with one more octet, two more digits
pub lower_more : (octets : List ℕ) (i : ℕ) → i < length octets
    → encode_lower (take (i + 1) octets) ≡ encode_lower (take i octets) ++ slice_index lower_digits (slice_index octets i / 16) ∷ slice_index lower_digits (slice_index octets i % 16) ∷ []
lower_more octets i within = ap encode_lower (take_more octets i 0 within) ∙ encode_with_append lower_digits (take i octets) (slice_index octets i)

pub lower_nil : encode_lower [] ≡ []
unfolding encode_with
lower_nil = refl

-- the digits are no dots
digit_no_dot : (n : ℕ) → n < 16 → is_no_dot (slice_index lower_digits n) ≡ true
digit_no_dot n h = grind arith

digits_stay : (octets : List ℕ) → IsOctets octets → filter is_no_dot (encode_lower octets) ≡ encode_lower octets
unfolding encode_with
digits_stay [] h = refl
digits_stay (o ∷ octets) h =
    rw (digit_no_dot (o / 16) (omega (arith, h 0)), digit_no_dot (o % 16) (omega arith), digits_stay octets (λ i. h (suc i))) refl

pub nsap_back : ComesBack IsOctets nsap_text IsNsapText
nsap_back own h =
    let spells : IsHexText (filter is_no_dot (encode_lower own)) own = rw (digits_stay own h) (decode_of-encode_lower own h) in
    ((refl, spells), λ other also. let e : Ok other ≡ Ok own = sym also.1 ∙ spells in cc)

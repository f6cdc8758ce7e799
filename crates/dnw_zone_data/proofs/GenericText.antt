-- The form that any data have round-trips.
use Rattle.std.proofs.Common.{◌≡◌, ℕ, zero, suc, ◌*◌, ◌^◌, ◌<◌, true, List, [], ◌∷◌, ◌++◌, length, Ok, refl, sym, ap, ◌∙◌, arith, decimal, append-nil}
use Rattle.std.proofs.lemmas.Bool.{and_parts}
use Rattle.hex.proofs.HexLemmas.{length-encode_with}
use Rattle.hex.specs.Hex.{upper_digits, decode_of}
use Rattle.dnw_zone_values.specs.Octets.{IsOctets, hex_text}
use Rattle.dnw_zone_values.proofs.ComeBack.{numbers, hexadecimal}
use Rattle.dnw_zone_values.proofs.HexText.{hex_text_nil}
use Rattle.dnw_zone_data.specs.Words.{is_end, after_spaces, after_word, without_spaces}
use Rattle.dnw_zone_data.specs.Generic.{has_even_words, hex_part, generic_text, AreHexWords, IsSized, IsGeneric}
use Rattle.dnw_zone_data.specs.DataTextLaws.{GenericComesBack, IsDataOctets}
use Rattle.dnw_zone_data.proofs.Plain.{is_plain, all_plain, plain_no_space, plain_starts, plain_word, plain_after, plain_joined, decimal_plain, hex_plain}

-- octets in one way at most
pub one_sized : (left a b : List ℕ) → IsSized left a → IsSized left b → a ≡ b
one_sized left a b h k = let e : Ok a ≡ Ok b = sym h.2.0 ∙ k.2.0 in cc

pub one_generic : (text a b : List ℕ) → IsGeneric text a → IsGeneric text b → a ≡ b
one_generic text a b h k = one_sized (after_word (after_spaces text)) a b h.1 k.1

-- a plain word of pairs of digits
even_plain : (w : List ℕ) (pairs : ℕ) → all_plain w ≡ true → length w ≡ 2 * pairs → has_even_words true w ≡ true
even_plain [] pairs plain size = refl
even_plain (a ∷ []) pairs plain size = absurd (omega (arith, size))
even_plain (a ∷ b ∷ w) zero plain size = absurd (omega (arith, size))
even_plain (a ∷ b ∷ w) (suc pairs) plain size =
    let first = and_parts (is_plain a) (all_plain (b ∷ w)) plain in
    let second = and_parts (is_plain b) (all_plain w) first.1 in
    rw (plain_no_space a first.0, plain_no_space b second.0) (even_plain w pairs second.1 (omega (arith, size)))

-- a number, and what is after it
pub hex_words : (octets : List ℕ) → IsOctets octets → AreHexWords (length octets) (after_spaces (hex_part octets)) octets
hex_words [] h = (sym (ap decode_of hex_text_nil) ∙ (hexadecimal [] h).0, refl, refl)
hex_words (o ∷ octets) h =
    let text = hex_text (o ∷ octets) in
    let plain = hex_plain (o ∷ octets) h in
    let some : 0 < length text = omega (arith, length-encode_with upper_digits (o ∷ octets)) in
    let starts : after_spaces text ≡ text = ap after_spaces (sym (append-nil text)) ∙ plain_starts text [] plain some ∙ append-nil text in
    let whole : without_spaces (after_spaces text) ≡ text = ap without_spaces starts ∙ plain_joined text plain in
    let even : has_even_words true (after_spaces text) ≡ true = ap (has_even_words true) starts ∙ even_plain text (length (o ∷ octets)) plain (length-encode_with upper_digits (o ∷ octets)) in
    rw whole ((hexadecimal (o ∷ octets) h).0, refl, even)

pub hex_end : (octets : List ℕ) → is_end (hex_part octets) ≡ true
hex_end [] = refl
hex_end (o ∷ octets) = refl

sized : (octets : List ℕ) → IsDataOctets octets → IsSized (32 ∷ decimal (length octets) ++ hex_part octets) octets
sized octets own =
    let n = length octets in
    let number = decimal n in
    let few : n < 2 ^ 64 = omega (arith, own.1) in
    let plain = decimal_plain n few in
    let is = (numbers 65535 (omega arith) n own.1).0 in
    let starts : after_spaces (number ++ hex_part octets) ≡ number ++ hex_part octets = plain_starts number (hex_part octets) plain is.0.0 in
    rw (starts, plain_word number (hex_part octets) plain (hex_end octets), plain_after number (hex_part octets) plain (hex_end octets))
    (n, is, hex_words octets own.0)

pub generic : GenericComesBack
generic octets own =
    let spells : IsGeneric (generic_text octets) octets = (refl, sized octets own) in
    (spells, λ other also. one_generic (generic_text octets) other octets also spells)

-- What is printed of tags, of hashed names and of pairs of digits spells them, and nothing else.
use Rattle.std.proofs.Common.{◌≡◌, ℕ, suc, ◌+◌, ◌*◌, ◌/◌, ◌%◌, ◌<◌, ◌≤◌, true, List, [], ◌∷◌, ◌++◌, length, map, refl, sym, ap, ◌∙◌, arith}
use Rattle.std.specs.Prelude.{Option, Some, option_map}
use Rattle.std.specs.List.{list_all}
use Rattle.std.specs.Char.{is_ascii_hexdigit}
use Rattle.std.proofs.lemmas.List.Sums.{AllPass-from_list_all}
use Rattle.dnw_zone_values.specs.Spelling.{ComesBack}
use Rattle.dnw_zone_values.specs.Octets.{IsOctets}
use Rattle.dnw_zone_values.specs.Tags.{IsTag, IsTagText}
use Rattle.dnw_zone_values.specs.Pairs.{IsIdentifier, lower_digit, digit_of, pair_octet, with_front, pairs_text, pairs_octets, IsPairsText}
use Rattle.dnw_zone_values.specs.Base32.{IsHash, base32_digit, base32_text, base32_value, is_base32, base32_octets, base32_first, base32_second, base32_third, base32_fourth, base32_fifth, IsHashText}

pub tag : ComesBack IsTag (λ (t : List ℕ). t) IsTagText
tag own is = ((refl, is), λ other also. sym also.0)

-- ---- pairs of hexadecimal digits

hex_digit : (n : ℕ) → n < 16 → is_ascii_hexdigit (lower_digit n) ≡ true
hex_digit n h = grind arith

hex_value : (n : ℕ) → n < 16 → digit_of (lower_digit n) ≡ n
hex_value n h = grind arith

one_octet : (o : ℕ) → o < 256 → pair_octet (lower_digit (o / 16)) (lower_digit (o % 16)) ≡ Some o
one_octet o h =
    let whole : 16 * (o / 16) + o % 16 ≡ o = omega arith in
    rw (hex_digit (o / 16) (omega arith), hex_digit (o % 16) (omega arith), hex_value (o / 16) (omega arith), hex_value (o % 16) (omega arith), whole) refl

read_pairs : (octets : List ℕ) → IsOctets octets → 1 ≤ length octets → pairs_octets (pairs_text octets) ≡ Some octets
read_pairs [] h some = absurd (omega arith)
read_pairs (o ∷ []) h some = ap (λ (x : Option ℕ). with_front x (Some [])) (one_octet o (h 0))
read_pairs (o ∷ p ∷ octets) h some =
    ap (λ (x : Option ℕ). with_front x (pairs_octets (pairs_text (p ∷ octets)))) (one_octet o (h 0)) ∙ ap (with_front (Some o)) (read_pairs (p ∷ octets) (λ i. h (suc i)) (omega arith))

pub pairs : ComesBack IsIdentifier pairs_text IsPairsText
pairs own is =
    let spells = read_pairs own is.0 is.1 in
    (spells, λ other also. let e : Some other ≡ Some own = sym also ∙ spells in cc)

-- ---- base 32

digit_is : (n : ℕ) → n < 32 → is_base32 (base32_digit n) ≡ true
digit_is n h = grind arith

digit_value : (n : ℕ) → n < 32 → base32_value (base32_digit n) ≡ n
digit_value n h = grind arith

all_digits : (octets : List ℕ) → IsOctets octets → list_all is_base32 (base32_text octets) ≡ true
all_digits [] h = refl
all_digits (a ∷ []) h = rw (digit_is (a / 8) (omega (arith, h 0)), digit_is (a % 8 * 4) (omega arith)) refl
all_digits (a ∷ b ∷ []) h =
    rw (digit_is (a / 8) (omega (arith, h 0)), digit_is (a % 8 * 4 + b / 64) (omega (arith, h 1)), digit_is (b / 2 % 32) (omega arith), digit_is (b % 2 * 16) (omega arith)) refl
all_digits (a ∷ b ∷ c ∷ []) h =
    rw (digit_is (a / 8) (omega (arith, h 0)), digit_is (a % 8 * 4 + b / 64) (omega (arith, h 1)), digit_is (b / 2 % 32) (omega arith), digit_is (b % 2 * 16 + c / 16) (omega (arith, h 2)), digit_is (c % 16 * 2) (omega arith)) refl
all_digits (a ∷ b ∷ c ∷ d ∷ []) h =
    rw (digit_is (a / 8) (omega (arith, h 0)), digit_is (a % 8 * 4 + b / 64) (omega (arith, h 1)), digit_is (b / 2 % 32) (omega arith), digit_is (b % 2 * 16 + c / 16) (omega (arith, h 2)), digit_is (c % 16 * 2 + d / 128) (omega (arith, h 3)), digit_is (d / 4 % 32) (omega arith), digit_is (d % 4 * 8) (omega arith)) refl
all_digits (a ∷ b ∷ c ∷ d ∷ e ∷ octets) h =
    rw (digit_is (a / 8) (omega (arith, h 0)), digit_is (a % 8 * 4 + b / 64) (omega (arith, h 1)), digit_is (b / 2 % 32) (omega arith), digit_is (b % 2 * 16 + c / 16) (omega (arith, h 2)), digit_is (c % 16 * 2 + d / 128) (omega (arith, h 3)), digit_is (d / 4 % 32) (omega arith), digit_is (d % 4 * 8 + e / 32) (omega (arith, h 4)), digit_is (e % 32) (omega arith))
    (all_digits octets (λ i. h (suc (suc (suc (suc (suc i)))))))

read_base32 : (octets : List ℕ) → IsOctets octets → base32_octets (map base32_value (base32_text octets)) ≡ Some octets
read_base32 [] h = refl
read_base32 (a ∷ []) h =
    let x : base32_first (a / 8) (a % 8 * 4) ≡ a = omega arith in
    let zeros : a % 8 * 4 % 4 ≡ 0 = omega arith in
    rw (digit_value (a / 8) (omega (arith, h 0)), digit_value (a % 8 * 4) (omega arith), zeros, x) refl
read_base32 (a ∷ b ∷ []) h =
    let x : base32_first (a / 8) (a % 8 * 4 + b / 64) ≡ a = omega (arith, h 1) in
    let y : base32_second (a % 8 * 4 + b / 64) (b / 2 % 32) (b % 2 * 16) ≡ b = omega (arith, h 1) in
    let zeros : b % 2 * 16 % 16 ≡ 0 = omega arith in
    rw (digit_value (a / 8) (omega (arith, h 0)), digit_value (a % 8 * 4 + b / 64) (omega (arith, h 1)), digit_value (b / 2 % 32) (omega arith), digit_value (b % 2 * 16) (omega arith), zeros, x, y) refl
read_base32 (a ∷ b ∷ c ∷ []) h =
    let x : base32_first (a / 8) (a % 8 * 4 + b / 64) ≡ a = omega (arith, h 1) in
    let y : base32_second (a % 8 * 4 + b / 64) (b / 2 % 32) (b % 2 * 16 + c / 16) ≡ b = omega (arith, h 1, h 2) in
    let z : base32_third (b % 2 * 16 + c / 16) (c % 16 * 2) ≡ c = omega (arith, h 2) in
    let zeros : c % 16 * 2 % 2 ≡ 0 = omega arith in
    rw (digit_value (a / 8) (omega (arith, h 0)), digit_value (a % 8 * 4 + b / 64) (omega (arith, h 1)), digit_value (b / 2 % 32) (omega arith), digit_value (b % 2 * 16 + c / 16) (omega (arith, h 2)), digit_value (c % 16 * 2) (omega arith), zeros, x, y, z) refl
read_base32 (a ∷ b ∷ c ∷ d ∷ []) h =
    let x : base32_first (a / 8) (a % 8 * 4 + b / 64) ≡ a = omega (arith, h 1) in
    let y : base32_second (a % 8 * 4 + b / 64) (b / 2 % 32) (b % 2 * 16 + c / 16) ≡ b = omega (arith, h 1, h 2) in
    let z : base32_third (b % 2 * 16 + c / 16) (c % 16 * 2 + d / 128) ≡ c = omega (arith, h 2, h 3) in
    let w : base32_fourth (c % 16 * 2 + d / 128) (d / 4 % 32) (d % 4 * 8) ≡ d = omega (arith, h 3) in
    let zeros : d % 4 * 8 % 8 ≡ 0 = omega arith in
    rw (digit_value (a / 8) (omega (arith, h 0)), digit_value (a % 8 * 4 + b / 64) (omega (arith, h 1)), digit_value (b / 2 % 32) (omega arith), digit_value (b % 2 * 16 + c / 16) (omega (arith, h 2)), digit_value (c % 16 * 2 + d / 128) (omega (arith, h 3)), digit_value (d / 4 % 32) (omega arith), digit_value (d % 4 * 8) (omega arith), zeros, x, y, z, w) refl
read_base32 (a ∷ b ∷ c ∷ d ∷ e ∷ octets) h =
    let x : base32_first (a / 8) (a % 8 * 4 + b / 64) ≡ a = omega (arith, h 1) in
    let y : base32_second (a % 8 * 4 + b / 64) (b / 2 % 32) (b % 2 * 16 + c / 16) ≡ b = omega (arith, h 1, h 2) in
    let z : base32_third (b % 2 * 16 + c / 16) (c % 16 * 2 + d / 128) ≡ c = omega (arith, h 2, h 3) in
    let w : base32_fourth (c % 16 * 2 + d / 128) (d / 4 % 32) (d % 4 * 8 + e / 32) ≡ d = omega (arith, h 3, h 4) in
    let v : base32_fifth (d % 4 * 8 + e / 32) (e % 32) ≡ e = omega (arith, h 4) in
    rw (digit_value (a / 8) (omega (arith, h 0)), digit_value (a % 8 * 4 + b / 64) (omega (arith, h 1)), digit_value (b / 2 % 32) (omega arith), digit_value (b % 2 * 16 + c / 16) (omega (arith, h 2)), digit_value (c % 16 * 2 + d / 128) (omega (arith, h 3)), digit_value (d / 4 % 32) (omega arith), digit_value (d % 4 * 8 + e / 32) (omega (arith, h 4)), digit_value (e % 32) (omega arith), x, y, z, w, v)
    (ap (option_map (λ (own : List ℕ). (a ∷ b ∷ c ∷ d ∷ e ∷ []) ++ own)) (read_base32 octets (λ i. h (suc (suc (suc (suc (suc i))))))))

pub hash : ComesBack IsHash base32_text IsHashText
hash own is =
    let spells = read_base32 own is.0 in
    ((AllPass-from_list_all is_base32 (base32_text own) (all_digits own is.0), spells, is.1, is.2), λ other also. let e : Some other ≡ Some own = sym also.1 ∙ spells in cc)

-- What is printed of locators, of numbers of nodes and of addresses of NSAP is parsed as them, and a text is one of each at most.
use Rattle.std.proofs.Common.{◌≡◌, ℕ, suc, ◌/◌, ◌%◌, ◌<◌, true, List, [], ◌∷◌, ◌++◌, Ok, refl, sym, ap, ◌∙◌, arith, decimal}
use Rattle.hex.specs.Hex.{encode_with, lower_digits}
use Rattle.dnw_data.specs.Values.{FieldValue, u64, octets}
use Rattle.dnw_zone_values.specs.Octets.{IsOctets}
use Rattle.dnw_zone_values.specs.Pairs.{lower_digit}
use Rattle.dnw_zone_values.specs.Locators.{group_text, locator_text}
use Rattle.dnw_zone_values.specs.Nsap.{nsap_text}
use Rattle.std.proofs.lemmas.Fmt.{decimal_is_IsNumeral}
use Rattle.dnw_zone_values.proofs.LocatorsBack.{locator_back, one_locator}
use Rattle.dnw_zone_values.proofs.NsapBack.{nsap_back}
use Rattle.dnw_zone_data.specs.Locators.{IsLocatorField, IsNodeNumber, IsNsapField}
use Rattle.dnw_zone_data.proofs.Plain.{is_plain, all_plain, places_at, plain_append}

-- ---- locators

digit_plain : (n : ℕ) → n < 16 → is_plain (lower_digit n) ≡ true
digit_plain n h = grind arith

group_plain : (n : ℕ) → n < 65536 → all_plain (group_text n) ≡ true
group_plain n h =
    rw (digit_plain (n / 4096) (omega arith), digit_plain (n / 256 % 16) (omega arith), digit_plain (n / 16 % 16) (omega arith), digit_plain (n % 16) (omega arith)) refl

pub locator_plain : (n : ℕ) → n < 18446744073709551616 → all_plain (locator_text n) ≡ true
locator_plain n h =
    let a = n / 281474976710656 in
    let b = n / 4294967296 % 65536 in
    let c = n / 65536 % 65536 in
    let d = n % 65536 in
    plain_append (group_text a) (58 ∷ group_text b ++ 58 ∷ group_text c ++ 58 ∷ group_text d) (group_plain a (omega arith))
    (plain_append (group_text b) (58 ∷ group_text c ++ 58 ∷ group_text d) (group_plain b (omega arith))
    (plain_append (group_text c) (58 ∷ group_text d) (group_plain c (omega arith)) (group_plain d (omega arith))))

pub locator_read : (n : ℕ) → n < 18446744073709551616 → IsLocatorField (locator_text n) (u64 n)
locator_read n h = (n, (locator_back n h).0, refl)

pub one_locator_field : (text : List ℕ) (v w : FieldValue) → IsLocatorField text v → IsLocatorField text w → v ≡ w
one_locator_field text v w x y = x.2 ∙ ap u64 (one_locator text x.0 y.0 x.1 y.1) ∙ sym y.2

-- ---- numbers of nodes

pub node_read : (n : ℕ) → n < 18446744073709551616 → IsNodeNumber (decimal n) (u64 n)
node_read n h =
    let numeral = decimal_is_IsNumeral n h in
    (n, (numeral.0, numeral.1, omega (arith, h)), refl)

pub one_node_number : (text : List ℕ) (v w : FieldValue) → IsNodeNumber text v → IsNodeNumber text w → v ≡ w
one_node_number text v w x y = x.2 ∙ ap u64 (sym x.1.1 ∙ y.1.1) ∙ sym y.2

-- ---- addresses of NSAP

lower_plain : (own : List ℕ) → IsOctets own → all_plain (encode_with lower_digits own) ≡ true
unfolding encode_with
lower_plain [] h = refl
lower_plain (o ∷ own) h =
    let high = places_at lower_digits 16 (o / 16) refl (omega (arith, h 0)) in
    let low = places_at lower_digits 16 (o % 16) refl (omega arith) in
    rw (high, low) (lower_plain own (λ i. h (suc i)))

pub nsap_plain : (own : List ℕ) → IsOctets own → all_plain (nsap_text own) ≡ true
nsap_plain own h = lower_plain own h

pub nsap_read : (own : List ℕ) → IsOctets own → IsNsapField (nsap_text own) (octets own)
nsap_read own h = (own, (nsap_back own h).0, refl)

pub one_nsap_field : (text : List ℕ) (v w : FieldValue) → IsNsapField text v → IsNsapField text w → v ≡ w
one_nsap_field text v w x y =
    let same : Ok x.0 ≡ Ok y.0 = sym x.1.1 ∙ y.1.1 in
    let own : x.0 ≡ y.0 = cc in
    x.2 ∙ ap octets own ∙ sym y.2

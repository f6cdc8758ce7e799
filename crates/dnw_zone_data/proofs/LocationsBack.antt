-- A location that is printed is read as the same octets.
use Rattle.std.proofs.Common.{◌≡◌, ◌≢◌, ◌≤◌, ◌<◌, ℕ, ◌-◌, ◌*◌, ◌/◌, ◌%◌, ◌^◌, ◌&&◌, true, List, [], ◌∷◌, ◌++◌, length, slice_index, decimal, codes, refl, sym, ap, ◌∙◌, arith, length-append, inl, inr}
use Rattle.std.specs.Prelude.{nat_lt}
use Rattle.std.proofs.lemmas.Bool.{and_parts, cases_Bool, cases_lt, le-ltb, leb-true, lt-ltb}
use Rattle.std.proofs.lemmas.Fmt.{decimal_nonempty}
use Rattle.dnw_data.specs.declared.kind.Shape.TheVariants as shapes
use Rattle.dnw_data.specs.Values.{shaped}
use Rattle.dnw_zone_values.specs.declared.location.Axis.{Axis}
use Rattle.dnw_zone_values.specs.declared.location.Axis.TheVariants.{Latitude, Longitude}
use Rattle.dnw_zone_values.specs.declared.location.Location.{Location}
use Rattle.dnw_zone_values.specs.Octets.{IsOctets}
use Rattle.dnw_zone_values.specs.Locations.{altitude_text, angle_words, arc, degree, depth, hundredths_text, is_angle, is_location, is_precision, letter, location_at, location_words, max_degrees, minute, origin, size_of, size_text, words_text, thousandths_text, PrintsLocation}
use Rattle.dnw_zone_values.proofs.LocationsBack.{back, few_degrees, first_is, size_fits, wire_back}
use Rattle.dnw_zone_data.specs.Words.{after_spaces, is_end, word}
use Rattle.dnw_zone_data.specs.Generic.{generic_mark}
use Rattle.dnw_zone_data.specs.Locations.{AreLocation, AreWords}
use Rattle.dnw_zone_data.proofs.Items.{starts_twice}
use Rattle.dnw_zone_data.proofs.Plain.{all_plain, decimal_plain, is_plain, plain_after, plain_append, plain_starts, plain_word}

-- ---- words that are printed

abbrev pub AreMarks : List (List ℕ) → Type 0
AreMarks [] = Unit {0}
AreMarks (w ∷ words) = (0 < length w) × (all_plain w ≡ true) × AreMarks words

spaced_end : (words : List (List ℕ)) → is_end (words_text words) ≡ true
spaced_end [] = refl
spaced_end (w ∷ words) = refl

spaced_words : (words : List (List ℕ)) → AreMarks words → AreWords (words_text words) words
spaced_words [] h = refl
spaced_words (w ∷ words) (some, plain, more) =
    let rest = words_text words in
    let end = spaced_end words in
    let starts : after_spaces (words_text (w ∷ words)) ≡ w ++ rest = plain_starts w rest plain some in
    rw (starts, plain_word w rest plain end, plain_after w rest plain end)
    ((λ none. omega (arith, some, ap length none, length-append w rest)), refl, spaced_words words more)

from_start : (text : List ℕ) (words : List (List ℕ)) → AreWords text words → AreWords (after_spaces text) words
from_start text [] h = starts_twice text ∙ h
from_start text (w ∷ words) h = rw (starts_twice text) h

-- ---- the words of a location

marks_append : (a b : List (List ℕ)) → AreMarks a → AreMarks b → AreMarks (a ++ b)
marks_append [] b h k = k
marks_append (w ∷ a) b h k = (h.0, h.1, marks_append a b h.2 k)

digit_plain : (d : ℕ) → d < 10 → all_plain (decimal d) ≡ true
digit_plain d h = decimal_plain d (omega arith)

thousandths_plain : (n : ℕ) → n < 2 ^ 64 → all_plain (thousandths_text n) ≡ true
thousandths_plain n h =
    plain_append (decimal (n / 1000)) (46 ∷ (decimal (n / 100 % 10) ++ decimal (n / 10 % 10) ++ decimal (n % 10))) (decimal_plain (n / 1000) (omega arith))
    (plain_append (decimal (n / 100 % 10) ++ decimal (n / 10 % 10)) (decimal (n % 10))
    (plain_append (decimal (n / 100 % 10)) (decimal (n / 10 % 10)) (digit_plain (n / 100 % 10) (omega arith)) (digit_plain (n / 10 % 10) (omega arith)))
    (digit_plain (n % 10) (omega arith)))

hundredths_plain : (n : ℕ) → n < 2 ^ 64 → all_plain (hundredths_text n) ≡ true
hundredths_plain n h =
    plain_append (decimal (n / 100)) (46 ∷ (decimal (n / 10 % 10) ++ decimal (n % 10))) (decimal_plain (n / 100) (omega arith))
    (plain_append (decimal (n / 10 % 10)) (decimal (n % 10)) (digit_plain (n / 10 % 10) (omega arith)) (digit_plain (n % 10) (omega arith)))

letter_plain : (axis : Axis) (n : ℕ) → is_plain (letter axis n) ≡ true
letter_plain Latitude n = elim (cases_Bool (nat_lt n origin)) [ inl below ↦ rw below refl | inr above ↦ rw above refl ]
letter_plain Longitude n = elim (cases_Bool (nat_lt n origin)) [ inl below ↦ rw below refl | inr above ↦ rw above refl ]

angle_marks : (axis : Axis) (n : ℕ) → is_angle axis n ≡ true → AreMarks (angle_words axis n)
angle_marks axis n is =
    let few = leb-true (arc n) (max_degrees axis * degree) is in
    let max = few_degrees axis in
    let s = arc n % minute in
    let one : all_plain (letter axis n ∷ []) ≡ true = rw (letter_plain axis n) refl in (
      decimal_nonempty (arc n / degree) (omega (arith, few, max)),
      decimal_plain (arc n / degree) (omega (arith, few, max)),
      (
        decimal_nonempty (arc n / minute % 60) (omega arith),
        decimal_plain (arc n / minute % 60) (omega arith),
        (
          omega (arith, length-append (decimal (s / 1000)) (46 ∷ (decimal (s / 100 % 10) ++ decimal (s / 10 % 10) ++ decimal (s % 10)))),
          thousandths_plain s (omega arith),
          (omega arith, one, tt),
        ),
      ),
    )

with_unit : (own : List ℕ) → all_plain own ≡ true → (0 < length (own ++ codes "m")) × (all_plain (own ++ codes "m") ≡ true)
with_unit own plain = (omega (arith, length-append own (codes "m")), plain_append own (codes "m") plain refl)

altitude_mark : (n : ℕ) → n < 2 ^ 32 → (0 < length (altitude_text n)) × (all_plain (altitude_text n) ≡ true)
altitude_mark n h = elim (cases_lt n depth) [
  | inl below ↦ rw (lt-ltb n depth below) (with_unit (45 ∷ hundredths_text (depth - n)) (hundredths_plain (depth - n) (omega arith)))
  | inr above ↦ rw (le-ltb n depth above) (with_unit (hundredths_text (n - depth)) (hundredths_plain (n - depth) (omega arith)))
]

size_mark : (octet : ℕ) → is_precision octet ≡ true → (0 < length (size_text octet)) × (all_plain (size_text octet) ≡ true)
size_mark octet is =
    let few = (size_fits octet is).0 in
    elim (cases_Bool (nat_lt (size_of octet) 100)) [
      | inl small ↦ rw small (with_unit (hundredths_text (size_of octet)) (hundredths_plain (size_of octet) (omega (arith, few))))
      | inr great ↦ rw great (with_unit (decimal (size_of octet / 100)) (decimal_plain (size_of octet / 100) (omega (arith, few))))
    ]

location_marks : (l : Location) → is_location l ≡ true → l.altitude < 2 ^ 32 → AreMarks (location_words l)
location_marks l is small =
    let a = is_angle Latitude l.latitude in
    let b = is_angle Longitude l.longitude in
    let vertical = and_parts (a && b && is_precision l.size && is_precision l.horizontal) (is_precision l.vertical) is in
    let horizontal = and_parts (a && b && is_precision l.size) (is_precision l.horizontal) vertical.0 in
    let size = and_parts (a && b) (is_precision l.size) horizontal.0 in
    let angles = and_parts a b size.0 in
    let altitude = altitude_mark l.altitude small in
    let s = size_mark l.size size.1 in
    let h = size_mark l.horizontal horizontal.1 in
    let v = size_mark l.vertical vertical.1 in
    let ends : AreMarks (altitude_text l.altitude ∷ size_text l.size ∷ size_text l.horizontal ∷ size_text l.vertical ∷ []) =
    (altitude.0, altitude.1, (s.0, s.1, (h.0, h.1, (v.0, v.1, tt)))) in
    marks_append (angle_words Latitude l.latitude ++ angle_words Longitude l.longitude) (altitude_text l.altitude ∷ size_text l.size ∷ size_text l.horizontal ∷ size_text l.vertical ∷ [])
    (marks_append (angle_words Latitude l.latitude) (angle_words Longitude l.longitude) (angle_marks Latitude l.latitude angles.0) (angle_marks Longitude l.longitude angles.1)) ends

-- ---- locations

few_degrees_north : (l : Location) → is_location l ≡ true → arc l.latitude ≤ max_degrees Latitude * degree
few_degrees_north l is =
    let a = is_angle Latitude l.latitude in
    let b = is_angle Longitude l.longitude in
    let vertical = and_parts (a && b && is_precision l.size && is_precision l.horizontal) (is_precision l.vertical) is in
    let horizontal = and_parts (a && b && is_precision l.size) (is_precision l.horizontal) vertical.0 in
    let size = and_parts (a && b) (is_precision l.size) horizontal.0 in
    leb-true (arc l.latitude) (max_degrees Latitude * degree) (and_parts a b size.0).0

no_mark : (n : ℕ) → n < 2 ^ 64 → decimal n ≢ generic_mark
no_mark n h e = omega (arith, (first_is n h []).1, ap (λ (xs : List ℕ). slice_index (xs ++ []) 0) e)

-- what is printed are plain words, each after a space
pub location_spaced : (own text : List ℕ) → IsOctets own → PrintsLocation own text → (words : List (List ℕ)) × AreMarks words × (text ≡ words_text words)
location_spaced own text octets print =
    let l = location_at own in (location_words l, location_marks l print.1 (wire_back own octets print.0).1, print.2)

pub location_back : (own text : List ℕ) → IsOctets own → PrintsLocation own text
    → AreLocation (after_spaces text) (shaped (record { shape = shapes.Location; octets = own })) × (word (after_spaces text) ≢ generic_mark) × (is_end text ≡ true)
location_back own text octets print =
    let l = location_at own in
    let (spelled, are, wire) = back own text octets print in
    let words = spaced_words (location_words l) (location_marks l print.1 (wire_back own octets print.0).1) in
    let first : word (after_spaces (words_text (location_words l))) ≡ decimal (arc l.latitude / degree) = words.1 in
    rw spelled (
      (
        location_words l,
        l,
        from_start (words_text (location_words l)) (location_words l) words,
        are,
        ap (λ (xs : List ℕ). shaped (record { shape = shapes.Location; octets = xs })) (sym wire),
      ),
      (λ e. no_mark (arc l.latitude / degree) (omega (arith, few_degrees_north l print.1)) (sym first ∙ e)),
      refl,
    )

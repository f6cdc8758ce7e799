-- What is printed of a location is its words, and these are read as it.
use Rattle.std.proofs.Common.{◌≡◌, ◌≤◌, ◌<◌, ℕ, zero, suc, ◌+◌, ◌-◌, ◌*◌, ◌/◌, ◌%◌, ◌^◌, ◌==◌, ◌&&◌, ◌||◌, Bool, true, false, List, [], ◌∷◌, ◌++◌, length, take, drop, slice_index, codes, decimal, refl, sym, ap, ◌∙◌, subst, arith, append_assoc, length-append, append-nil, inl, inr}
use Rattle.std.specs.Prelude.{nat_le, nat_lt, not}
use Rattle.std.specs.List.{position_or_len}
use Rattle.std.specs.Char.{digit_value}
use Rattle.std.specs.Fmt.{digits}
use Rattle.std.specs.Str.Parse.{AllDigits, digits_value, starts_with_minus, without_leading_sign}
use Rattle.std.proofs.lemmas.Bool.{and_parts, cases_Bool, cases_lt, eqb-true, le-ltb, leb-true, ltb-true, lt-ltb, ne_eqb}
use Rattle.std.proofs.lemmas.Fmt.{decimal_by_steps, decimal_digit, decimal_is_IsNumeral}
use Rattle.std.proofs.lemmas.List.{drop_all, drop_at, take_all, take_at}
use Rattle.std.proofs.lemmas.Str.{digit_value_digit}
use Rattle.std.proofs.lemmas.Str.Parse.{digit_from_value}
use Rattle.std.proofs.Math.Seq.{get_or-append_seam}
use Rattle.dnw_zone_values.specs.declared.location.Axis.{Axis}
use Rattle.dnw_zone_values.specs.declared.location.Axis.TheVariants.{Latitude, Longitude}
use Rattle.dnw_zone_values.specs.declared.location.Location.{Location}
use Rattle.dnw_zone_values.specs.Locations.{after_point, angle_words, arc, before_point, degree, depth, hundredths_text, is_angle, is_letter, is_point, letter, max_degrees, max_size, minute, origin, positive_letter, negative_letter, precision, altitude_text, size_of, size_text, thousandths_text, without_unit, has_version, is_location, is_precision, location_at, location_wire, location_words, part_at, AreLocationWords, BeginWithAngle, IsAltitude, IsAngle, IsCentimetres, IsMetres, IsOnSide, IsScaled, IsSeconds, IsSizeText}
use Rattle.std.specs.Int.{w32, from_be_bytes, to_be_bytes}
use Rattle.std.proofs.lemmas.Nat.{be_bytes_4}
use Rattle.dnw_zone_values.specs.Octets.{IsOctets}
use Rattle.dnw_zone_values.specs.LocationLaws.{LocationsComeBack}
use Rattle.dnw_zone_values.proofs.ComeBack.{numbers}

-- ---- digits

digit_is : (d : ℕ) → d < 10 → digit_value (48 + d) ≡ d
digit_is d h = let e = digit_value_digit (48 + d) (omega arith, omega arith) in omega (arith, e)

-- the first character is a digit, whatever is after the number
pub first_is : (n : ℕ) → n < 2 ^ 64 → (rest : List ℕ) → (48 ≤ slice_index (decimal n ++ rest) 0) × (slice_index (decimal n ++ rest) 0 ≤ 57)
first_is n h =
    decimal_by_steps (λ _ ds. (rest : List ℕ) → (48 ≤ slice_index (ds ++ rest) 0) × (slice_index (ds ++ rest) 0 ≤ 57))
    (λ m few rest. (omega arith, omega arith)) (λ m ds ten so_far rest. rw (append_assoc ds ((48 + m % 10) ∷ []) rest) (so_far ((48 + m % 10) ∷ rest))) n h

-- ---- points

no_point : (c : ℕ) → digit_value c < 10 → is_point c ≡ false
no_point c h = ne_eqb c 46 (omega (arith, (digit_from_value c h).0))

up_to_point : (whole part : List ℕ) → AllDigits 10 whole → position_or_len is_point (whole ++ 46 ∷ part) ≡ length whole
up_to_point [] part h = refl
up_to_point (c ∷ whole) part h = rw (no_point c h.0) (let more = up_to_point whole part h.1 in omega (arith, more))

up_to_end : (whole : List ℕ) → AllDigits 10 whole → position_or_len is_point whole ≡ length whole
up_to_end [] h = refl
up_to_end (c ∷ whole) h = rw (no_point c h.0) (let more = up_to_end whole h.1 in omega (arith, more))

before_is : (whole part : List ℕ) → AllDigits 10 whole → before_point (whole ++ 46 ∷ part) ≡ whole
before_is whole part h = take_at whole (46 ∷ part) _ (sym (up_to_point whole part h))

after_is : (whole part : List ℕ) → AllDigits 10 whole → after_point (whole ++ 46 ∷ part) ≡ part
after_is whole part h =
    let size : length (whole ++ 46 ∷ []) ≡ position_or_len is_point (whole ++ 46 ∷ part) + 1 = omega (arith, up_to_point whole part h, length-append whole (46 ∷ [])) in
    ap (λ (xs : List ℕ). drop (position_or_len is_point (whole ++ 46 ∷ part) + 1) xs) (sym (append_assoc whole (46 ∷ []) part)) ∙ drop_at (whole ++ 46 ∷ []) part _ size

-- a number with all its digits after the point
scaled_is : (places : ℕ) (text whole part : List ℕ) (n : ℕ) → text ≡ whole ++ 46 ∷ part → AllDigits 10 whole → AllDigits 10 part → length part ≡ places
    → n ≡ digits_value 10 whole * 10 ^ places + digits_value 10 part → IsScaled places (before_point text) (after_point text) n
scaled_is places text whole part n e all others size is =
    let none : places - length part ≡ 0 = omega (arith, size) in
    rw (e, before_is whole part all, after_is whole part all) (all, others, omega (arith, size), rw none (omega (arith, is)))

three : (a b c : ℕ) → a < 10 → b < 10 → c < 10 → AllDigits 10 (decimal a ++ decimal b ++ decimal c) × (length (decimal a ++ decimal b ++ decimal c) ≡ 3)
    × (digits_value 10 (decimal a ++ decimal b ++ decimal c) ≡ a * 100 + b * 10 + c)
three a b c ha hb hc =
    let da = digit_is a ha in
    let db = digit_is b hb in
    let dc = digit_is c hc in
    rw (decimal_digit a ha, decimal_digit b hb, decimal_digit c hc) ((omega (arith, da), (omega (arith, db), (omega (arith, dc), tt))), refl, omega (arith, da, db, dc))

two : (a b : ℕ) → a < 10 → b < 10 → AllDigits 10 (decimal a ++ decimal b) × (length (decimal a ++ decimal b) ≡ 2) × (digits_value 10 (decimal a ++ decimal b) ≡ a * 10 + b)
two a b ha hb =
    let da = digit_is a ha in
    let db = digit_is b hb in
    rw (decimal_digit a ha, decimal_digit b hb) ((omega (arith, da), (omega (arith, db), tt)), refl, omega (arith, da, db))

thousandths : (n : ℕ) → n < minute → IsSeconds (thousandths_text n) n
thousandths n h =
    let whole = decimal_is_IsNumeral (n / 1000) (omega arith) in
    let part = three (n / 100 % 10) (n / 10 % 10) (n % 10) (omega arith) (omega arith) (omega arith) in
    let digits = decimal (n / 100 % 10) ++ decimal (n / 10 % 10) ++ decimal (n % 10) in
    let scaled = scaled_is 3 (thousandths_text n) (decimal (n / 1000)) digits n refl whole.0.1 part.0 part.1 (omega (arith, whole.1, part.2)) in
    let some : 1 ≤ length (before_point (thousandths_text n)) = rw (before_is (decimal (n / 1000)) digits whole.0.1) whole.0.0 in
    (scaled, some, h)

hundredths : (n : ℕ) → n < 2 ^ 63 → IsCentimetres (hundredths_text n) n
hundredths n h =
    let whole = decimal_is_IsNumeral (n / 100) (omega arith) in
    let part = two (n / 10 % 10) (n % 10) (omega arith) (omega arith) in
    let digits = decimal (n / 10 % 10) ++ decimal (n % 10) in
    let scaled = scaled_is 2 (hundredths_text n) (decimal (n / 100)) digits n refl whole.0.1 part.0 part.1 (omega (arith, whole.1, part.2)) in
    let some : 1 ≤ length (before_point (hundredths_text n)) = rw (before_is (decimal (n / 100)) digits whole.0.1) whole.0.0 in
    (scaled, omega (arith, some))

whole_metres : (n : ℕ) → n < 2 ^ 63 → n % 100 ≡ 0 → IsCentimetres (decimal (n / 100)) n
whole_metres n h none =
    let text = decimal (n / 100) in
    let whole = decimal_is_IsNumeral (n / 100) (omega arith) in
    let stop = up_to_end text whole.0.1 in
    let before : before_point text ≡ text = ap (λ (k : ℕ). take k text) stop ∙ take_all (length text) text (omega arith) in
    let after : after_point text ≡ [] = drop_all (position_or_len is_point text + 1) text (omega (arith, stop)) in
    rw (before, after) ((whole.0.1, tt, omega arith, omega (arith, whole.1, none)), omega (arith, whole.0.0))

-- ---- signs and units

unit_off : (w : List ℕ) → without_unit (w ++ codes "m") ≡ w
unit_off w =
    let last : length (w ++ codes "m") - 1 ≡ length w = omega (arith, length-append w (codes "m")) in
    let here : slice_index (w ++ codes "m") (length w) ≡ 109 = get_or-append_seam w 109 [] 0 in
    rw (last, here) (take_at w (codes "m") (length w) refl)

sign_off : (text : List ℕ) → 48 ≤ slice_index text 0 → (without_leading_sign text ≡ text) × (starts_with_minus text ≡ false)
sign_off text h =
    let minus = ne_eqb (slice_index text 0) 45 (omega arith) in
    let plus = ne_eqb (slice_index text 0) 43 (omega arith) in
    (rw (minus, plus) refl, minus)

-- metres without a sign
plain_metres : (own : List ℕ) (n : ℕ) → 48 ≤ slice_index (own ++ codes "m") 0 → IsCentimetres own n → IsMetres (own ++ codes "m") n × (starts_with_minus (own ++ codes "m") ≡ false)
plain_metres own n h is = let sign = sign_off (own ++ codes "m") h in (rw (sign.0, unit_off own) is, sign.1)

-- ---- altitudes

first_of_hundredths : (n : ℕ) (rest : List ℕ) → n < 2 ^ 64 → 48 ≤ slice_index (hundredths_text n ++ rest) 0
first_of_hundredths n rest h =
    let more = 46 ∷ (decimal (n / 10 % 10) ++ decimal (n % 10)) in
    rw (append_assoc (decimal (n / 100)) more rest) (first_is (n / 100) (omega arith) (more ++ rest)).0

pub altitude_back : (n : ℕ) → n < 2 ^ 32 → IsAltitude (altitude_text n) n
altitude_back n h = elim (cases_lt n depth) [
  | inl below ↦
      let is : nat_lt n depth ≡ true = lt-ltb n depth below in
      let metres : IsMetres (45 ∷ hundredths_text (depth - n) ++ codes "m") (depth - n) = rw (unit_off (hundredths_text (depth - n))) (hundredths (depth - n) (omega arith)) in
      rw is (depth - n, metres, omega arith, inl (refl, omega arith))
  | inr above ↦
      let is : nat_lt n depth ≡ false = le-ltb n depth above in
      let (metres, sign) = plain_metres (hundredths_text (n - depth)) (n - depth) (first_of_hundredths (n - depth) (codes "m") (omega arith)) (hundredths (n - depth) (omega arith)) in
      rw is (n - depth, metres, omega arith, inr (sign, omega arith))
]

-- ---- sizes

abbrev all_below : (ℕ → Bool) → ℕ → Bool
all_below test zero = true
all_below test (suc n) = test n && all_below test n

one_below : (test : ℕ → Bool) (n k : ℕ) → all_below test n ≡ true → k < n → test k ≡ true
one_below test zero k h lt = absurd (omega arith)
one_below test (suc n) k h lt =
    let parts = and_parts (test n) (all_below test n) h in
    elim (cases_lt k n) [
      | inl below ↦ one_below test n k parts.1 below
      | inr top ↦ let e : k ≡ n = omega arith in rw e parts.0
    ]

-- an octet stands for a number in range, of whole metres from one metre on, whose digits it has
abbrev fits_size : ℕ → Bool
fits_size octet =
    not (is_precision octet)
    || (nat_le (size_of octet) max_size && (nat_lt (size_of octet) 100 || size_of octet % 100 == 0) && precision (size_of octet) == octet)

all_fit : all_below fits_size 160 ≡ true
unfolding digits
all_fit = refl

pub size_fits : (octet : ℕ) → is_precision octet ≡ true → (size_of octet ≤ max_size) × ((nat_lt (size_of octet) 100 || size_of octet % 100 == 0) ≡ true) × (precision (size_of octet) ≡ octet)
size_fits octet is =
    let few = (and_parts (nat_lt octet 160 && nat_lt (octet % 16) 10) (nat_le 16 octet || octet == 0) is).0 in
    let below = ltb-true octet 160 (and_parts (nat_lt octet 160) (nat_lt (octet % 16) 10) few).0 in
    let fit : fits_size octet ≡ true = one_below fits_size 160 octet all_fit below in
    let fits = rw is at fit in
    let parts = and_parts (nat_le (size_of octet) max_size && (nat_lt (size_of octet) 100 || size_of octet % 100 == 0)) (precision (size_of octet) == octet) fits in
    let first = and_parts (nat_le (size_of octet) max_size) (nat_lt (size_of octet) 100 || size_of octet % 100 == 0) parts.0 in
    (leb-true (size_of octet) max_size first.0, first.1, eqb-true (precision (size_of octet)) octet parts.1)

size_by : (octet : ℕ) (own : List ℕ) → is_precision octet ≡ true → 48 ≤ slice_index (own ++ codes "m") 0 → IsCentimetres own (size_of octet) → IsSizeText (own ++ codes "m") octet
size_by octet own is first metres =
    let (fits, whole, same) = size_fits octet is in
    let (are, sign) = plain_metres own (size_of octet) first metres in
    (size_of octet, are, (λ minus. let no : true ≡ false = sym minus ∙ sign in absurd cc), fits, sym same)

pub size_back : (octet : ℕ) → is_precision octet ≡ true → IsSizeText (size_text octet) octet
size_back octet is =
    let (fits, whole, same) = size_fits octet is in
    elim (cases_Bool (nat_lt (size_of octet) 100)) [
      | inl small ↦
          rw small (size_by octet (hundredths_text (size_of octet)) is (first_of_hundredths (size_of octet) (codes "m") (omega (arith, fits))) (hundredths (size_of octet) (omega (arith, fits))))
      | inr great ↦
          let none : (size_of octet % 100 == 0) ≡ true = rw great at whole in
          rw great (size_by octet (decimal (size_of octet / 100)) is (first_is (size_of octet / 100) (omega (arith, fits)) (codes "m")).0
          (whole_metres (size_of octet) (omega (arith, fits)) (eqb-true (size_of octet % 100) 0 none)))
    ]

-- ---- angles

low_no_letter : (axis : Axis) (c : ℕ) → c ≤ 57 → (c == positive_letter axis || c == negative_letter axis) ≡ false
low_no_letter Latitude c h = rw (ne_eqb c 78 (omega arith), ne_eqb c 83 (omega arith)) refl
low_no_letter Longitude c h = rw (ne_eqb c 69 (omega arith), ne_eqb c 87 (omega arith)) refl

no_letter : (axis : Axis) (w : List ℕ) → slice_index w 0 ≤ 57 → is_letter axis w ≡ false
no_letter axis [] h = refl
no_letter axis (c ∷ []) h = low_no_letter axis c h
no_letter axis (c ∷ d ∷ w) h = refl

pub few_degrees : (axis : Axis) → max_degrees axis ≤ 180
few_degrees Latitude = omega arith
few_degrees Longitude = omega arith

own_side : (axis : Axis) (n : ℕ) → IsOnSide axis (letter axis n ∷ []) (arc n) n
own_side axis n = elim (cases_lt n origin) [
  | inl below ↦ rw (lt-ltb n origin below) (inr (refl, omega arith))
  | inr above ↦ rw (le-ltb n origin above) (inl (refl, omega arith))
]

angle_is : (axis : Axis) (n : ℕ) → is_angle axis n ≡ true
    → IsAngle axis (decimal (arc n / degree)) (decimal (arc n / minute % 60)) (thousandths_text (arc n % minute)) (letter axis n ∷ []) n
angle_is axis n is =
    let few = leb-true (arc n) (max_degrees axis * degree) is in
    let max = few_degrees axis in
    let a = arc n in
    let whole : a / degree * degree + a / minute % 60 * minute + a % minute ≡ a = omega arith in (
      a / degree,
      a / minute % 60,
      a % minute,
      (numbers (max_degrees axis) (omega (arith, max)) (a / degree) (omega (arith, few))).0,
      (numbers 59 (omega arith) (a / minute % 60) (omega arith)).0,
      thousandths (a % minute) (omega arith),
      omega (arith, whole, few),
      subst (λ (k : ℕ). IsOnSide axis (letter axis n ∷ []) k n) (sym whole) (own_side axis n),
    )

pub angle_back : (axis : Axis) (n : ℕ) (rest : List (List ℕ)) → is_angle axis n ≡ true → BeginWithAngle axis (angle_words axis n ++ rest) n rest
angle_back axis n rest is =
    let few = leb-true (arc n) (max_degrees axis * degree) is in
    let max = few_degrees axis in
    let minutes = no_letter axis (decimal (arc n / minute % 60)) (subst (λ (xs : List ℕ). slice_index xs 0 ≤ 57) (append-nil (decimal (arc n / minute % 60))) (first_is (arc n / minute % 60) (omega arith) []).1) in
    let s = arc n % minute in
    let seconds = no_letter axis (thousandths_text s) (first_is (s / 1000) (omega arith) (46 ∷ (decimal (s / 100 % 10) ++ decimal (s / 10 % 10) ++ decimal (s % 10)))).1 in
    rw (minutes, seconds) (angle_is axis n is, refl)

-- ---- locations

words_back : (l : Location) → is_location l ≡ true → l.altitude < 2 ^ 32 → AreLocationWords (location_words l) l
words_back l is small =
    let a = is_angle Latitude l.latitude in
    let b = is_angle Longitude l.longitude in
    let vertical = and_parts (a && b && is_precision l.size && is_precision l.horizontal) (is_precision l.vertical) is in
    let horizontal = and_parts (a && b && is_precision l.size) (is_precision l.horizontal) vertical.0 in
    let size = and_parts (a && b) (is_precision l.size) horizontal.0 in
    let angles = and_parts a b size.0 in
    let ends = altitude_text l.altitude ∷ size_text l.size ∷ size_text l.horizontal ∷ size_text l.vertical ∷ [] in (
      angle_words Longitude l.longitude ++ ends,
      ends,
      angle_back Latitude l.latitude (angle_words Longitude l.longitude ++ ends) angles.0,
      angle_back Longitude l.longitude ends angles.1,
      (altitude_back l.altitude small, size_back l.size size.1, size_back l.horizontal horizontal.1, size_back l.vertical vertical.1),
    )

-- four octets are those of their number
four_back : (a b c d : ℕ) → a < 256 → b < 256 → c < 256 → d < 256
    → (to_be_bytes w32 (from_be_bytes w32 (a ∷ b ∷ c ∷ d ∷ [])) ≡ a ∷ b ∷ c ∷ d ∷ []) × (from_be_bytes w32 (a ∷ b ∷ c ∷ d ∷ []) < 2 ^ 32)
four_back a b c d ha hb hc hd = (be_bytes_4 (a ∷ b ∷ c ∷ d ∷ []) _ refl each refl, omega arith)
  where
    each : (i : ℕ) → slice_index (a ∷ b ∷ c ∷ d ∷ []) i < 256
    each zero = ha
    each (suc zero) = hb
    each (suc (suc zero)) = hc
    each (suc (suc (suc zero))) = hd
    each (suc (suc (suc (suc i)))) = omega arith

pub wire_back : (own : List ℕ) → IsOctets own → has_version own ≡ true → (location_wire (location_at own) ≡ own) × (part_at own 12 < 2 ^ 32)
wire_back (v ∷ s ∷ x ∷ y ∷ a ∷ b ∷ c ∷ d ∷ e ∷ f ∷ g ∷ h ∷ i ∷ j ∷ k ∷ l ∷ []) octets is =
    let version : v ≡ 0 = eqb-true v 0 is in
    let first = four_back a b c d (octets 4) (octets 5) (octets 6) (octets 7) in
    let second = four_back e f g h (octets 8) (octets 9) (octets 10) (octets 11) in
    let third = four_back i j k l (octets 12) (octets 13) (octets 14) (octets 15) in
    let m = from_be_bytes w32 (e ∷ f ∷ g ∷ h ∷ []) in
    let n = from_be_bytes w32 (i ∷ j ∷ k ∷ l ∷ []) in (
      ap (λ (xs : List ℕ). 0 ∷ s ∷ x ∷ y ∷ (xs ++ to_be_bytes w32 m ++ to_be_bytes w32 n)) first.0
          ∙ ap (λ (xs : List ℕ). 0 ∷ s ∷ x ∷ y ∷ a ∷ b ∷ c ∷ d ∷ (xs ++ to_be_bytes w32 n)) second.0
          ∙ ap (λ (xs : List ℕ). 0 ∷ s ∷ x ∷ y ∷ a ∷ b ∷ c ∷ d ∷ e ∷ f ∷ g ∷ h ∷ xs) third.0
          ∙ ap (λ (o : ℕ). o ∷ s ∷ x ∷ y ∷ a ∷ b ∷ c ∷ d ∷ e ∷ f ∷ g ∷ h ∷ i ∷ j ∷ k ∷ l ∷ []) (sym version),
      third.1,
    )
wire_back own octets is = let size = (and_parts (length own == 16) (slice_index own 0 == 0) is).0 in let e = eqb-true (length own) 16 size in absurd (omega (arith, e))

pub back : LocationsComeBack
back own text octets (version, is, e) =
    let wire = wire_back own octets version in
    (e, words_back (location_at own) is wire.1, wire.0)

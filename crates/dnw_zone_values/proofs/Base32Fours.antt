-- Base 32, four digits at a time.
use Rattle.std.proofs.Common.{◌≡◌, ℕ, ◌+◌, ◌-◌, ◌*◌, ◌/◌, ◌%◌, ◌<◌, ◌≤◌, Bool, true, false, ◌&&◌, List, [], ◌∷◌, ◌++◌, length, take, drop, get_or, map, Result, Ok, Err, refl, sym, ap, ◌∙◌, arith, append_assoc, length-append}
use Rattle.std.specs.Prelude.{Option, Some, None, IfOk, if◌then◌else◌}
use Rattle.std.specs.List.{AllPass, list_all}
use Rattle.std.specs.declared.alloc.AllocError.{AllocError}
use Rattle.std.proofs.lemmas.List.Sums.{AllPass-from_list_all, list_all-from_AllPass}
use Rattle.dnw_zone_values.specs.Base32.{base32_octets, base32_value, is_base32, IsHashText}
use Rattle.dnw_zone_values.specs.Inside.Digits.{base32_digit_value, digits_octets, number_of_four}
use Rattle.dnw_zone_values.specs.Inside.Takes.{after, PushesAll}
use Rattle.dnw_zone_values.proofs.FourDigits.{value_below}
use Rattle.dnw_zone_values.proofs.Groups.{after_all, eight_parts, of_eight}

-- the number of four values, each of a digit or not
abbrev four : (p q r s : Bool) (a b c d : ℕ) → Option ℕ
four p q r s a b c d =
    number_of_four 32768 1024 32 (if p then Some a else None) (if q then Some b else None) (if r then Some c else None) (if s then Some d else None)

four_some : (p q r s : Bool) (a b c d n : ℕ) → four p q r s a b c d ≡ Some n → (p ≡ true) × (q ≡ true) × (r ≡ true) × (s ≡ true) × (n ≡ a * 32768 + b * 1024 + c * 32 + d)
four_some false q r s a b c d n is = cc
four_some true false r s a b c d n is = cc
four_some true true false s a b c d n is = cc
four_some true true true false a b c d n is = cc
four_some true true true true a b c d n is = let e : a * 32768 + b * 1024 + c * 32 + d ≡ n = cc is in (refl, refl, refl, refl, sym e)

-- nothing is given if one of four is no digit
shut : (p q r s all : Bool) (a b c d : ℕ) (o : Option (List ℕ)) → four p q r s a b c d ≡ None → (if p && (q && (r && (s && all))) then o else None) ≡ None
shut false q r s all a b c d o is = refl
shut true false r s all a b c d o is = refl
shut true true false s all a b c d o is = refl
shut true true true false all a b c d o is = refl
shut true true true true all a b c d o is = cc

-- four digits are passed over
open_four : (p q r s all : Bool) (o : Option (List ℕ)) → p ≡ true → q ≡ true → r ≡ true → s ≡ true
    → (if p && (q && (r && (s && all))) then o else None) ≡ (if all then o else None)
open_four p q r s all o hp hq hr hs = rw (hp, hq, hr, hs) refl

within : (all : Bool) (own : List ℕ) (o : Option (List ℕ)) → (if all then after own o else None) ≡ after own (if all then o else None)
within true own o = refl
within false own o = refl

-- the octets of two numbers of four digits
abbrev pub octets_of : ℕ → ℕ → List ℕ
octets_of first last = first / 4096 ∷ first / 16 % 256 ∷ (first % 16 * 16 + last / 65536) ∷ last / 256 % 256 ∷ last % 256 ∷ []

abbrev pub number_at : List ℕ → ℕ → Option ℕ
number_at xs i =
    number_of_four 32768 1024 32 (base32_digit_value (get_or xs i 0)) (base32_digit_value (get_or xs (i + 1) 0)) (base32_digit_value (get_or xs (i + 2) 0)) (base32_digit_value (get_or xs (i + 3) 0))

octets_same : (a b c d e f g h first last : ℕ) → a < 32 → b < 32 → c < 32 → d < 32 → e < 32 → f < 32 → g < 32 → h < 32
    → first ≡ a * 32768 + b * 1024 + c * 32 + d → last ≡ e * 32768 + f * 1024 + g * 32 + h → of_eight a b c d e f g h ≡ octets_of first last
octets_same a b c d e f g h first last ha hb hc hd he hf hg hh is also =
    let o0 : a * 8 + b / 4 ≡ first / 4096 = omega (arith, is) in
    let o1 : b % 4 * 64 + c * 2 + d / 16 ≡ first / 16 % 256 = omega (arith, is) in
    let o2 : d % 16 * 16 + e / 2 ≡ first % 16 * 16 + last / 65536 = omega (arith, is, also) in
    let o3 : e % 2 * 128 + f * 4 + g / 8 ≡ last / 256 % 256 = omega (arith, also) in
    let o4 : g % 8 * 32 + h ≡ last % 256 = omega (arith, also) in
    rw (o0, o1, o2, o3, o4) refl

some : (a b c d n : ℕ) → number_of_four 32768 1024 32 (base32_digit_value a) (base32_digit_value b) (base32_digit_value c) (base32_digit_value d) ≡ Some n
    → (is_base32 a ≡ true) × (is_base32 b ≡ true) × (is_base32 c ≡ true) × (is_base32 d ≡ true) × (n ≡ base32_value a * 32768 + base32_value b * 1024 + base32_value c * 32 + base32_value d)
some a b c d n is = four_some (is_base32 a) (is_base32 b) (is_base32 c) (is_base32 d) (base32_value a) (base32_value b) (base32_value c) (base32_value d) n is

module _ (a b c d e f g h : ℕ) (rest : List ℕ) where
  abbrev first_four : Option ℕ
  first_four = number_of_four 32768 1024 32 (base32_digit_value a) (base32_digit_value b) (base32_digit_value c) (base32_digit_value d)

  abbrev last_four : Option ℕ
  last_four = number_of_four 32768 1024 32 (base32_digit_value e) (base32_digit_value f) (base32_digit_value g) (base32_digit_value h)

  abbrev digits : List ℕ
  digits = a ∷ b ∷ c ∷ d ∷ e ∷ f ∷ g ∷ h ∷ rest

  abbrev given : Option (List ℕ)
  given = base32_octets (map base32_value digits)

  first_open : (first : ℕ) → first_four ≡ Some first → digits_octets digits ≡ (if list_all is_base32 (e ∷ f ∷ g ∷ h ∷ rest) then given else None)
  first_open first is = let x = some a b c d first is in open_four _ _ _ _ (list_all is_base32 (e ∷ f ∷ g ∷ h ∷ rest)) given x.0 x.1 x.2 x.3

  eight_octets : (first last : ℕ) → first_four ≡ Some first → last_four ≡ Some last → digits_octets digits ≡ after (octets_of first last) (digits_octets rest)
  eight_octets first last is also =
      let x = some a b c d first is in
      let y = some e f g h last also in
      let own : List ℕ = of_eight (base32_value a) (base32_value b) (base32_value c) (base32_value d) (base32_value e) (base32_value f) (base32_value g) (base32_value h) in
      let same : own ≡ octets_of first last =
      octets_same _ _ _ _ _ _ _ _ first last (value_below a) (value_below b) (value_below c) (value_below d) (value_below e) (value_below f) (value_below g) (value_below h) x.4 y.4 in
      first_open first is ∙ open_four _ _ _ _ (list_all is_base32 rest) given y.0 y.1 y.2 y.3
      ∙ within (list_all is_base32 rest) own (base32_octets (map base32_value rest)) ∙ ap (λ (own : List ℕ). after own (digits_octets rest)) same

  none_first : first_four ≡ None → digits_octets digits ≡ None
  none_first is = shut _ _ _ _ (list_all is_base32 (e ∷ f ∷ g ∷ h ∷ rest)) _ _ _ _ given is

  none_last : (first : ℕ) → first_four ≡ Some first → last_four ≡ None → digits_octets digits ≡ None
  none_last first is none = first_open first is ∙ shut _ _ _ _ (list_all is_base32 rest) _ _ _ _ given none

pub number_below : (xs : List ℕ) (i n : ℕ) → number_at xs i ≡ Some n → n < 1048576
number_below xs i n is =
    let at = λ (k : ℕ). get_or xs (i + k) 0 in
    let sum = (some (get_or xs i 0) (at 1) (at 2) (at 3) n is).4 in
    omega (arith, sum, value_below (get_or xs i 0), value_below (at 1), value_below (at 2), value_below (at 3))

-- eight digits more
pub eight_more : (text xs found : List ℕ) (first last n : ℕ) → 8 ≤ length xs → n ≡ length xs - 8 → digits_octets text ≡ after found (digits_octets xs)
    → number_at xs 0 ≡ Some first → number_at xs 4 ≡ Some last → digits_octets text ≡ after (found ++ octets_of first last) (digits_octets (take n (drop 8 xs)))
eight_more text xs found first last n few size so_far is also =
    let at = λ (i : ℕ). get_or xs i 0 in
    let rest : List ℕ = take n (drop 8 xs) in
    so_far ∙ ap (λ (ys : List ℕ). after found (digits_octets ys)) (eight_parts xs n few size)
    ∙ ap (after found) (eight_octets (at 0) (at 1) (at 2) (at 3) (at 4) (at 5) (at 6) (at 7) rest first last is also) ∙ after_all found (octets_of first last) (digits_octets rest)

-- or none, if there is another character
pub none_in_first : (text xs found : List ℕ) → 8 ≤ length xs → digits_octets text ≡ after found (digits_octets xs) → number_at xs 0 ≡ None → digits_octets text ≡ None
none_in_first text xs found few so_far is =
    let at = λ (i : ℕ). get_or xs i 0 in
    so_far ∙ ap (λ (ys : List ℕ). after found (digits_octets ys)) (eight_parts xs (length xs - 8) few refl) ∙ ap (after found) (none_first (at 0) (at 1) (at 2) (at 3) (at 4) (at 5) (at 6) (at 7) (take (length xs - 8) (drop 8 xs)) is)

pub none_in_last : (text xs found : List ℕ) (first : ℕ) → 8 ≤ length xs → digits_octets text ≡ after found (digits_octets xs) → number_at xs 0 ≡ Some first → number_at xs 4 ≡ None
    → digits_octets text ≡ None
none_in_last text xs found first few so_far is none =
    let at = λ (i : ℕ). get_or xs i 0 in
    so_far ∙ ap (λ (ys : List ℕ). after found (digits_octets ys)) (eight_parts xs (length xs - 8) few refl)
    ∙ ap (after found) (none_last (at 0) (at 1) (at 2) (at 3) (at 4) (at 5) (at 6) (at 7) (take (length xs - 8) (drop 8 xs)) first is none)

-- the octets of a text of digits alone
pub of_digits : (text : List ℕ) → AllPass is_base32 text → digits_octets text ≡ base32_octets (map base32_value text)
of_digits text all = rw (list_all-from_AllPass is_base32 text all) refl

pub of_others : (text : List ℕ) → ¬ (AllPass is_base32 text) → digits_octets text ≡ None
of_others text other = go (list_all is_base32 text) refl where
  go : (b : Bool) → list_all is_base32 text ≡ b → digits_octets text ≡ None
  go true all = absurd (other (AllPass-from_list_all is_base32 text all))
  go false not_all = rw not_all refl

-- so they are those of a hashed name
pub is_hash : (text octets : List ℕ) → digits_octets text ≡ Some octets → 1 ≤ length octets → length octets ≤ 255 → IsHashText text octets
is_hash text octets is some few = go (list_all is_base32 text) refl where
  go : (b : Bool) → list_all is_base32 text ≡ b → IsHashText text octets
  go true all = (AllPass-from_list_all is_base32 text all, sym (of_digits text (AllPass-from_list_all is_base32 text all)) ∙ is, some, few)
  go false not_all = let none : digits_octets text ≡ None = rw not_all refl in cc (sym none ∙ is)

pub hash_is : (text octets : List ℕ) → IsHashText text octets → digits_octets text ≡ Some octets
hash_is text octets own = of_digits text own.0 ∙ own.1

-- what is appended of the rest is appended of the text
pub pushed : (r : Result Bool AllocError) (text left found old mid new : List ℕ) → digits_octets text ≡ after found (digits_octets left) → mid ≡ old ++ found
    → AllPass is_base32 left → IfOk r (PushesAll (base32_octets (map base32_value left)) mid new) → IfOk r (PushesAll (digits_octets text) old new)
pushed (Ok true) text left found old mid new so_far items all own =
    (found ++ own.0, so_far ∙ ap (after found) (of_digits left all ∙ own.1), own.2 ∙ ap (λ (ys : List ℕ). ys ++ own.0) items ∙ append_assoc old found own.0)
pushed (Ok false) text left found old mid new so_far items all own =
    (so_far ∙ ap (after found) (of_digits left all ∙ own.0), (found ++ own.1.0, own.1.1 ∙ ap (λ (ys : List ℕ). ys ++ own.1.0) items ∙ append_assoc old found own.1.0))
pushed (Err e) text left found old mid new so_far items all own = own

pub pushes_front : (o : Option (List ℕ)) (old new : List ℕ) (whole : Bool) → PushesAll o old new whole → (found : List ℕ) × (new ≡ old ++ found)
pushes_front o old new true own = (own.0, own.2)
pushes_front o old new false own = own.1

-- the text is no hashed name if it has no octets, or none or too many
pub no_hash : (text old new : List ℕ) (whole : Bool) → PushesAll (digits_octets text) old new whole
    → (whole ≡ true → 1 ≤ length new - length old → length new - length old ≤ 255 → ⊥) → (octets : List ℕ) → ¬ (IsHashText text octets)
no_hash text old new true own never octets is =
    let same : own.0 ≡ octets = cc (sym own.1 ∙ hash_is text octets is) in
    let size : length new ≡ length old + length octets = ap length (own.2 ∙ ap (λ (ys : List ℕ). old ++ ys) same) ∙ length-append old octets in
    never refl (omega (arith, size, is.2)) (omega (arith, size, is.3))
no_hash text old new false own never octets is = cc (sym own.0 ∙ hash_is text octets is)

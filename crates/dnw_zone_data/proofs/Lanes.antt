-- Characters that are looked at together.
use Rattle.std.proofs.Common.{◌≡◌, ◌≢◌, ℕ, zero, suc, ◌+◌, ◌-◌, ◌*◌, ◌^◌, ◌%◌, ◌≤◌, ◌<◌, ◌==◌, ◌||◌, Bool, true, false, not, cond, List, [], ◌∷◌, map, length, take, drop, get_or, bit_or, refl, sym, ap, ap₂, ◌∙◌, arith, inl, inr}
use Rattle.std.specs.List.{prefix_len}
use Rattle.std.specs.Simd.Lanes.{mask_l}
use Rattle.std.proofs.lemmas.Bool.{cases_Bool, eqb-true}
use Rattle.std.proofs.lemmas.Bool.Decides.{nat_tests}
use Rattle.std.proofs.Math.Seq.{drop-nil}
use Rattle.std.proofs.lemmas.List.{length-drop, length-map, length-take-le, take_all}
use Rattle.std.proofs.lemmas.Simd.{leading_from_mask_l, mask_l-mod, trailing_mask_l}
use lib.Count.{count_trailing_zeros}
use lib.Lanes.{top}
use Rattle.dnw_zone_values.specs.Strings.{quote, backslash}
use Rattle.dnw_zone_data.specs.Words.{plain_len, quoted_len, word_len}
use Rattle.dnw_zone_data.specs.Inside.WordParts.{is_plain_stop, is_quoted_stop, is_word_part}
use Rattle.dnw_zone_data.proofs.WordParts.{goes_on}

-- ---- tests of all lanes

-- a comparison sets all bits of a lane, or none
abbrev lane_if : Bool → ℕ
lane_if is = cond is 255 0

pub one_top : (a : Bool) → top 7 (lane_if a) ≡ a
one_top true = refl
one_top false = refl

pub either_top : (a b : Bool) → top 7 (bit_or (lane_if a) (lane_if b)) ≡ (a || b)
either_top true true = refl
either_top true false = refl
either_top false true = refl
either_top false false = refl

pub either_of_three_top : (a b c : Bool) → top 7 (bit_or (bit_or (lane_if a) (lane_if b)) (lane_if c)) ≡ (a || b || c)
either_of_three_top true b c = elim b as (λ x. top 7 (bit_or (bit_or 255 (lane_if x)) (lane_if c)) ≡ true) [ true ↦ either_top true c | false ↦ either_top true c ]
either_of_three_top false true c = either_top true c
either_of_three_top false false c = either_top false c

tops : (f : ℕ → ℕ) (p : ℕ → Bool) → ((c : ℕ) → top 7 (f c) ≡ p c) → (xs : List ℕ) → map (top 7) (map f xs) ≡ map p xs
tops f p same [] = refl
tops f p same (c ∷ cs) = ap₂ (λ x l. x ∷ l) (same c) (tops f p same cs)

pub mask_of : (f : ℕ → ℕ) (p : ℕ → Bool) → ((c : ℕ) → top 7 (f c) ≡ p c) → (lanes tested : List ℕ) → length lanes ≤ 64 → tested ≡ map f lanes
    → mask_l (map (top 7) tested) % 2 ^ 64 ≡ mask_l (map p lanes)
mask_of f p same lanes tested size is =
    ap (λ l. mask_l l % 2 ^ 64) (ap (map (top 7)) is ∙ tops f p same lanes) ∙ mask_l-mod (map p lanes) 64 (omega (arith, length-map lanes p, size))

-- ---- up to the first that a test stops at

stop_within : (p : ℕ → Bool) (xs : List ℕ) → 0 < mask_l (map p xs) → prefix_len (λ c. not (p c)) xs < length xs
stop_within p [] some = absurd (omega (arith, some))
stop_within p (c ∷ cs) some = elim (cases_Bool (p c)) [
  | inl is ↦ rw is (omega arith)
  | inr is ↦ rw is (omega (arith, stop_within p cs (let more : 0 < 0 + 2 * mask_l (map p cs) = rw is at some in omega (arith, more))))
]

-- so many characters are each one more of a length
pub run : (p : ℕ → Bool) (len : List ℕ → ℕ) → ((c : ℕ) (cs : List ℕ) → p c ≡ false → len (c ∷ cs) ≡ 1 + len cs)
    → (n k : ℕ) (xs : List ℕ) → n ≤ prefix_len (λ c. not (p c)) (take k xs) → len xs ≡ n + len (drop n xs)
run p len more zero k xs few = omega arith
run p len more (suc n) zero xs few = absurd (omega (arith, few))
run p len more (suc n) (suc k) [] few = absurd (omega (arith, few))
run p len more (suc n) (suc k) (c ∷ cs) few = elim (cases_Bool (p c)) [
  | inl is ↦ absurd (let none : suc n ≤ 0 = rw is at few in omega (arith, none))
  | inr is ↦ let others : suc n ≤ 1 + prefix_len (λ c. not (p c)) (take k cs) = rw is at few in omega (arith, more c cs is, run p len more n k cs (omega (arith, others)))
]

is_part : (c : ℕ) → is_plain_stop c ≡ false → is_word_part c ≡ true
unfolding is_word_part
is_part c is = grind (arith, nat_tests)

plain_more : (c : ℕ) (cs : List ℕ) → is_plain_stop c ≡ false → plain_len false (c ∷ cs) ≡ 1 + plain_len false cs
plain_more c cs is = goes_on c cs (is_part c is)

quoted_more : (c : ℕ) (cs : List ℕ) → is_quoted_stop c ≡ false → quoted_len false (c ∷ cs) ≡ 1 + quoted_len false cs
quoted_more c cs is = elim (cases_Bool (c == quote)) [
  | inl q ↦ absurd (let none : true ≡ false = rw q at is in cc)
  | inr q ↦ rw (q, (let other : (c == backslash) ≡ false = rw q at is in other)) refl
]

pub plain_run : (n k : ℕ) (xs : List ℕ) → n ≤ prefix_len (λ c. not (is_plain_stop c)) (take k xs) → plain_len false xs ≡ n + plain_len false (drop n xs)
plain_run n k xs few = run is_plain_stop (plain_len false) plain_more n k xs few

pub quoted_run : (n k : ℕ) (xs : List ℕ) → n ≤ prefix_len (λ c. not (is_quoted_stop c)) (take k xs) → quoted_len false xs ≡ n + quoted_len false (drop n xs)
quoted_run n k xs few = run is_quoted_stop (quoted_len false) quoted_more n k xs few

-- the lanes of a mask: none stops, or the lowest bit stands for the first that does
pub none_stops : (p : ℕ → Bool) (k : ℕ) (xs : List ℕ) (mask : ℕ) → k ≤ length xs → mask ≡ mask_l (map p (take k xs)) → mask ≡ 0
    → k ≤ prefix_len (λ c. not (p c)) (take k xs)
none_stops p k xs mask size is none = omega (arith, leading_from_mask_l p (take k xs) (sym is ∙ none), length-take-le k xs size)

pub one_stops : (p : ℕ → Bool) (k : ℕ) (xs : List ℕ) (mask : ℕ) → k ≤ 64 → k ≤ length xs → mask ≡ mask_l (map p (take k xs)) → mask ≢ 0
    → (count_trailing_zeros 64 mask < length xs) × (count_trailing_zeros 64 mask ≤ prefix_len (λ c. not (p c)) (take k xs))
one_stops p k xs mask small size is some =
    let size-lanes = length-take-le k xs size in
    let first = trailing_mask_l p 64 (take k xs) (omega (arith, size-lanes, small)) (omega (arith, is, some)) in
    let within = stop_within p (take k xs) (omega (arith, is, some)) in
    rw is (omega (arith, first, within, size-lanes, size), omega (arith, first))

-- ---- what is left after characters that were passed

-- so many characters of a text were passed, and those are so many of a length
abbrev pub Passed : (List ℕ → ℕ) → List ℕ → List ℕ → Type 0
Passed len all left = (length left ≤ length all) × ((length all - length left) + len left ≡ len all)

pub passed_none : (len : List ℕ → ℕ) (all : List ℕ) → Passed len all all
passed_none len all = (omega arith, omega arith)

pub pass : (len : List ℕ → ℕ) (n : ℕ) (all left : List ℕ) → n ≤ length left → len left ≡ n + len (drop n left) → Passed len all left
    → Passed len all (take (length left - n) (drop n left))
pass len n all left size more (within, so) =
    let rest : take (length left - n) (drop n left) ≡ drop n left = take_all (length left - n) (drop n left) (omega (arith, length-drop n left)) in
    rw rest (omega (arith, length-drop n left, within), omega (arith, length-drop n left, size, within, more, so))

-- ---- a word with a space after it

no_more : (xs : List ℕ) (n : ℕ) → get_or xs n 0 ≡ 32 → plain_len false (drop n xs) ≡ 0
no_more [] n is = rw (drop-nil n) refl
no_more (c ∷ cs) zero is = rw is refl
no_more (c ∷ cs) (suc n) is = no_more cs n is

plain_word : (text : List ℕ) (n : ℕ) → plain_len false text ≡ n → get_or text n 0 ≡ 32 → n ≡ word_len text
plain_word [] n size is = sym size
plain_word (c ∷ cs) n size is = elim (cases_Bool (c == quote)) [
  | inl q ↦
      let none : 0 ≡ n = rw (eqb-true c quote q) at size in
      let first : c ≡ 32 = rw (sym none) at is in
      absurd (omega (arith, first, eqb-true c quote q))
  | inr q ↦ sym size ∙ sym (ap (λ (b : Bool). cond b (1 + quoted_len false cs) (plain_len false (c ∷ cs))) q)
]

-- the word ends at a space
pub spaced_word : (text : List ℕ) (n : ℕ) → plain_len false text ≡ n + plain_len false (drop n text) → get_or text n 0 ≡ 32 → n ≡ word_len text
spaced_word text n more space = plain_word text n (omega (arith, more, no_more text n space)) space

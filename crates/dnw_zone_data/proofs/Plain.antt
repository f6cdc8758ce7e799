-- Words of characters that are neither white space nor quotes, parentheses, semicolons or backslashes.
use Rattle.std.proofs.Common.{◌≡◌, ℕ, ◌+◌, ◌^◌, ◌<◌, ◌/◌, ◌%◌, Bool, true, false, not, ◌&&◌, ◌==◌, List, [], ◌∷◌, ◌++◌, length, slice_index, refl, sym, ap, ◌∙◌, arith, suc, zero, inl, inr, decimal}
use Rattle.std.specs.Prelude.{nat_le}
use Rattle.std.specs.List.{list_all}
use Rattle.std.specs.Str.{IsUtf8, IsAscii}
use Rattle.std.proofs.lemmas.Str.{IsUtf8-from_ascii}
use Rattle.std.proofs.lemmas.Str.Ascii.{IsAscii-nil, IsAscii-cons}
use Rattle.std.proofs.lemmas.Bool.{and_parts, cases_lt}
use Rattle.std.proofs.lemmas.List.{take_at, drop_at}
use Rattle.std.proofs.lemmas.Fmt.{decimal_by_steps}
use Rattle.hex.specs.Hex.{encode_with, upper_digits}
use Rattle.dnw_zone_values.specs.Octets.{IsOctets, hex_text}
use Rattle.dnw_zone_data.specs.Words.{is_space, is_end, begins_with_quote, is_word_end, plain_len, word_len, word, after_word, after_spaces, without_spaces}

-- a printable character that is no space, quote, parenthesis, semicolon or backslash
abbrev pub is_plain : ℕ → Bool
is_plain c = nat_le 33 c && nat_le c 126 && not (c == 34) && not (c == 40) && not (c == 41) && not (c == 59) && not (c == 92)

pub plain_by_tests : (c : ℕ) → nat_le 33 c ≡ true → nat_le c 126 ≡ true → (c == 34) ≡ false → (c == 40) ≡ false → (c == 41) ≡ false → (c == 59) ≡ false
    → (c == 92) ≡ false → is_plain c ≡ true
plain_by_tests c low high a b d e f = rw (low, high, a, b, d, e, f) refl

abbrev pub all_plain : List ℕ → Bool
all_plain w = list_all is_plain w

pub plain_no_space : (c : ℕ) → is_plain c ≡ true → is_space c ≡ false
plain_no_space c h = grind arith

pub plain_goes_on : (c : ℕ) → is_plain c ≡ true → is_word_end c ≡ false
plain_goes_on c h = grind arith

pub plain_no_quote : (c : ℕ) → is_plain c ≡ true → (c == 34) ≡ false
plain_no_quote c h = grind arith

pub plain_no_backslash : (c : ℕ) → is_plain c ≡ true → (c == 92) ≡ false
plain_no_backslash c h = grind arith

plain_ascii : (c : ℕ) → is_plain c ≡ true → c < 128
plain_ascii c h = grind arith

-- white space is no quote, and it ends a word
pub space_ends : (c : ℕ) → is_space c ≡ true → is_word_end c ≡ true
space_ends c h = rw h refl

space_no_quote : (c : ℕ) → is_space c ≡ true → (c == 34) ≡ false
space_no_quote c h = grind arith

pub end_unquoted : (rest : List ℕ) → is_end rest ≡ true → begins_with_quote rest ≡ false
end_unquoted [] end = refl
end_unquoted (c ∷ cs) end = space_no_quote c end

pub end_plain : (rest : List ℕ) → is_end rest ≡ true → plain_len false rest ≡ 0
end_plain [] end = refl
end_plain (c ∷ cs) end = rw (space_ends c end) refl

-- a word that does not begin with a quote
pub unquoted_len : (text : List ℕ) → begins_with_quote text ≡ false → word_len text ≡ plain_len false text
unquoted_len text h = rw h refl

pub plain_unquoted : (w rest : List ℕ) → all_plain w ≡ true → is_end rest ≡ true → begins_with_quote (w ++ rest) ≡ false
plain_unquoted [] rest h end = end_unquoted rest end
plain_unquoted (c ∷ w) rest h end = plain_no_quote c (and_parts (is_plain c) (all_plain w) h).0

-- a plain word up to its end
pub plain_up_to : (w rest : List ℕ) → all_plain w ≡ true → is_end rest ≡ true → plain_len false (w ++ rest) ≡ length w
plain_up_to [] rest h end = end_plain rest end
plain_up_to (c ∷ w) rest h end =
    let parts = and_parts (is_plain c) (all_plain w) h in
    rw (plain_goes_on c parts.0, plain_no_backslash c parts.0) (let rest-len = plain_up_to w rest parts.1 end in omega (arith, rest-len))

pub plain_word_len : (w rest : List ℕ) → all_plain w ≡ true → is_end rest ≡ true → word_len (w ++ rest) ≡ length w
plain_word_len w rest h end = unquoted_len (w ++ rest) (plain_unquoted w rest h end) ∙ plain_up_to w rest h end

pub plain_joined : (w : List ℕ) → all_plain w ≡ true → without_spaces w ≡ w
plain_joined [] h = refl
plain_joined (c ∷ w) h =
    let parts = and_parts (is_plain c) (all_plain w) h in
    rw (plain_no_space c parts.0) (ap (λ (xs : List ℕ). c ∷ xs) (plain_joined w parts.1))

all_ascii : (w : List ℕ) → all_plain w ≡ true → IsAscii w
all_ascii [] h = IsAscii-nil
all_ascii (c ∷ w) h =
    let parts = and_parts (is_plain c) (all_plain w) h in
    IsAscii-cons c w (plain_ascii c parts.0) (all_ascii w parts.1)

pub plain_utf8 : (w : List ℕ) → all_plain w ≡ true → IsUtf8 w
plain_utf8 w h = IsUtf8-from_ascii w (all_ascii w h)

-- white space is left out before a plain word
pub plain_starts : (w rest : List ℕ) → all_plain w ≡ true → 0 < length w → after_spaces (w ++ rest) ≡ w ++ rest
plain_starts [] rest h some = absurd (omega arith)
plain_starts (c ∷ w) rest h some =
    let parts = and_parts (is_plain c) (all_plain w) h in
    rw (plain_no_space c parts.0) refl

-- so a plain word is the first word
pub plain_word : (w rest : List ℕ) → all_plain w ≡ true → is_end rest ≡ true → word (w ++ rest) ≡ w
plain_word w rest h end = take_at w rest _ (sym (plain_word_len w rest h end))

pub plain_after : (w rest : List ℕ) → all_plain w ≡ true → is_end rest ≡ true → after_word (w ++ rest) ≡ rest
plain_after w rest h end = drop_at w rest _ (sym (plain_word_len w rest h end))

-- ---- which texts are plain

pub plain_append : (a b : List ℕ) → all_plain a ≡ true → all_plain b ≡ true → all_plain (a ++ b) ≡ true
plain_append [] b h k = k
plain_append (c ∷ a) b h k =
    let parts = and_parts (is_plain c) (all_plain a) h in rw (parts.0) (plain_append a b parts.1 k)

pub digit_plain : (n : ℕ) → n < 10 → is_plain (48 + n) ≡ true
digit_plain n h = grind arith

pub decimal_plain : (n : ℕ) → n < 2 ^ 64 → all_plain (decimal n) ≡ true
decimal_plain n h =
    decimal_by_steps (λ _ text. all_plain text ≡ true) (λ n below. rw (digit_plain n below) refl)
    (λ n ds ten so_far. plain_append ds ((48 + n % 10) ∷ []) so_far (rw (digit_plain (n % 10) (omega arith)) refl)) n h

-- the digits of a table are plain
abbrev pub all_places : List ℕ → ℕ → Bool
all_places t zero = true
all_places t (suc n) = is_plain (slice_index t n) && all_places t n

pub places_at : (t : List ℕ) (n k : ℕ) → all_places t n ≡ true → k < n → is_plain (slice_index t k) ≡ true
places_at t zero k h lt = absurd (omega arith)
places_at t (suc n) k h lt =
    let parts = and_parts (is_plain (slice_index t n)) (all_places t n) h in
    elim (cases_lt k n) [
      | inl below ↦ places_at t n k parts.1 below
      | inr top ↦ let e : k ≡ n = omega arith in rw e parts.0
    ]

encode_plain : (octets : List ℕ) → IsOctets octets → all_plain (encode_with upper_digits octets) ≡ true
unfolding encode_with
encode_plain [] h = refl
encode_plain (o ∷ octets) h =
    let high = places_at upper_digits 16 (o / 16) refl (omega (arith, h 0)) in
    let low = places_at upper_digits 16 (o % 16) refl (omega arith) in
    rw (high, low) (encode_plain octets (λ i. h (suc i)))

pub hex_plain : (octets : List ℕ) → IsOctets octets → all_plain (hex_text octets) ≡ true
hex_plain octets h = encode_plain octets h

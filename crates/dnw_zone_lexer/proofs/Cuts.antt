-- Where a text may be cut before the first character that passes a test.
use Rattle.std.proofs.Common.{◌≡◌, ℕ, suc, ◌+◌, ◌<◌, ◌≤◌, inl, inr, Bool, true, false, not, List, [], ◌∷◌, ◌++◌, length, take, drop, get_or, refl, sym, ap, subst, ◌∙◌, arith}
use Rattle.std.specs.List.{list_all}
use Rattle.std.specs.Char.{len_utf8}
use Rattle.std.specs.Str.{chars, IsUtf8, IsCharBoundary}
use Rattle.std.proofs.Math.Seq.{drop-cons}
use Rattle.std.proofs.lemmas.Bool.{cases_lt, lt-ltb, agree_below_at}
use Rattle.std.proofs.lemmas.List.{take-append-drop, append_cancel_right, length-append, drop_all}
use Rattle.std.proofs.lemmas.List.Folds.{list_all-append}
use Rattle.std.proofs.lemmas.Str.{chars-nil, chars-append, chars_past_char, encodes-chars, encode_ascii, length-encode, len_utf8_bounds, len_utf8_ascii, IsUtf8-take, IsUtf8-drop, IsCharBoundary-end, IsCharBoundary-start, IsCharBoundary-before_ascii, IsCharBoundary-past_char, drop_past_char}
use lib.Utf8.{encode, encodes}
use Rattle.dnw_zone_lexer.specs.Tokens.{front_until, from, ends_word, is_no_capital}
use Rattle.dnw_zone_lexer.specs.Inside.Finds.{CutsBefore, IsShorter, is_either, is_plain_char}

-- it does not pass
abbrev pub fails : (ℕ → Bool) → ℕ → Bool
fails p c = not (p c)

-- The first n bytes of a text are characters that do not pass.
pub record Scanned (p : ℕ → Bool) (text : List ℕ) (n : ℕ) : Type 0 where
  pub boundary : IsCharBoundary text n
  pub rest : from p (chars (drop n text)) ≡ from p (chars text)

-- a text that is cut is the characters of both parts
chars_cut : (text : List ℕ) (n : ℕ) → IsUtf8 text → IsCharBoundary text n → chars (take n text) ++ chars (drop n text) ≡ chars text
chars_cut text n utf8 cut = sym (chars-append (take n text) (drop n text) (IsUtf8-take text n utf8 cut)) ∙ ap chars (take-append-drop n text)

-- nothing, and one more character
pub scanned_start : (p : ℕ → Bool) (text : List ℕ) → IsUtf8 text → Scanned p text 0
scanned_start p text utf8 = record { boundary = IsCharBoundary-start text utf8; rest = refl }

pub scanned_step : (p : ℕ → Bool) (text : List ℕ) (n k c : ℕ) (cs : List ℕ) → IsUtf8 text → Scanned p text n → chars (drop n text) ≡ c ∷ cs → p c ≡ false → k ≡ len_utf8 c → Scanned p text (n + k)
scanned_step p text n k c cs utf8 s e fail size =
    let rest = IsUtf8-drop text n utf8 s.boundary in
    let bytes : drop n text ≡ encode c ++ encodes cs = sym (encodes-chars (drop n text) rest) ∙ ap encodes e in
    let after = ap chars (drop_past_char text (encodes cs) n c bytes) in
    let here = chars_past_char (drop n text) (encodes cs) c rest bytes in
    let scanned = s.rest in
    rw size (record { boundary = IsCharBoundary-past_char text (encodes cs) n c s.boundary.0 rest bytes; rest = grind (arith, after, here, scanned) })

pub before_from : (p : ℕ → Bool) (cs : List ℕ) → front_until p cs ++ from p cs ≡ cs
before_from p [] = refl
before_from p (c ∷ cs) = grind (arith, before_from p cs)

-- the text ends there, or a character passes
pub cut_at : (p : ℕ → Bool) (text : List ℕ) (n : ℕ) → IsUtf8 text → Scanned p text n → from p (chars (drop n text)) ≡ chars (drop n text) → CutsBefore p text n
cut_at p text n utf8 s stops =
    let whole = chars_cut text n utf8 s.boundary in
    let parts = before_from p (chars text) in
    let rest = s.rest in
    record { within = s.boundary.0; boundary = s.boundary; front = append_cancel_right _ _ (from p (chars text)) (cc); back = sym stops ∙ rest }

pub cut_at_end : (p : ℕ → Bool) (text : List ℕ) (n : ℕ) → IsUtf8 text → Scanned p text n → length text ≤ n → CutsBefore p text n
cut_at_end p text n utf8 s le = cut_at p text n utf8 s (rw (drop_all n text le, chars-nil) refl)

-- an ASCII byte is its own character
chars_ascii : (b : ℕ) (bs : List ℕ) → b < 128 → chars (b ∷ bs) ≡ b ∷ chars bs
unfolding chars
chars_ascii b [] lt = rw (lt-ltb b 128 lt) refl
chars_ascii b (d ∷ bs) lt = rw (lt-ltb b 128 lt) refl

ascii_at : (text : List ℕ) (n : ℕ) → n < length text → get_or text n 0 < 128 → chars (drop n text) ≡ get_or text n 0 ∷ chars (drop (suc n) text)
ascii_at text n lt small = ap chars (drop-cons text n 0 lt) ∙ chars_ascii _ _ small

-- the first character of a text, and what is after it
pub begins : (text rest : List ℕ) (c : ℕ) → IsUtf8 text → IsUtf8 rest → text ≡ encode c ++ rest → (chars text ≡ c ∷ chars rest) × IsShorter rest text
begins text rest c utf8 after e = (
  chars_past_char text rest c utf8 e,
  (omega (arith, ap length e, length-append (encode c) rest, length-encode c, (len_utf8_bounds c).0), after),
)

-- where only ASCII characters pass, bytes that do not pass are characters that do not
low_fails : (p : ℕ → Bool) → ((c : ℕ) → 128 ≤ c → p c ≡ false) → (cs : List ℕ) → list_all (fails p) (encodes cs) ≡ true → list_all (fails p) cs ≡ true
low_fails p low [] h = refl
low_fails p low (c ∷ cs) h = grind (arith, low c, low_fails p low cs, list_all-append (fails p) (encode c) (encodes cs), encode_ascii c, cases_lt c 128)

from_append : (p : ℕ → Bool) (xs ys : List ℕ) → list_all (fails p) xs ≡ true → from p (xs ++ ys) ≡ from p ys
from_append p [] ys h = refl
from_append p (c ∷ xs) ys h = grind (arith, from_append p xs ys)

low_scanned : (p : ℕ → Bool) → ((c : ℕ) → 128 ≤ c → p c ≡ false) → (text : List ℕ) (n : ℕ) → IsUtf8 text → IsCharBoundary text n → list_all (fails p) (take n text) ≡ true → Scanned p text n
low_scanned p low text n utf8 cut h =
    let none = low_fails p low (chars (take n text)) (ap (list_all (fails p)) (encodes-chars (take n text) (IsUtf8-take text n utf8 cut)) ∙ h) in
    record { boundary = cut; rest = sym (ap (from p) (sym (chars_cut text n utf8 cut)) ∙ from_append p (chars (take n text)) _ none) }

-- Two ASCII characters are bytes.
pub cut_at_either : (a b : ℕ) → a < 128 → b < 128 → (text : List ℕ) (n : ℕ) → IsUtf8 text → n ≤ length text → list_all (fails (is_either a b)) (take n text) ≡ true
    → (n < length text → is_either a b (get_or text n 0) ≡ true) → CutsBefore (is_either a b) text n
cut_at_either a b few small text n utf8 le h stop =
    let p = is_either a b in
    let scanned = λ (cut : IsCharBoundary text n). low_scanned p (λ c le. grind arith) text n utf8 cut h in
    elim (cases_lt n (length text)) [
      | inl lt ↦
          let ascii : get_or text n 0 < 128 = grind (arith, stop lt) in
          cut_at p text n utf8 (scanned (IsCharBoundary-before_ascii text n lt ascii)) (rw (ascii_at text n lt ascii, stop lt) refl)
      | inr ge ↦ cut_at_end p text n utf8 (scanned (subst (IsCharBoundary text) (omega arith) (IsCharBoundary-end text))) ge
    ]

-- An ASCII byte ends a word unless it is plain.
plain_or_end : (c : ℕ) → c < 128 → ends_word c ≡ not (is_plain_char c)
plain_or_end c lt = agree_below_at ends_word (λ (n : ℕ). not (is_plain_char n)) 128 c refl lt

pub scanned_plain : (text : List ℕ) (n : ℕ) → IsUtf8 text → Scanned ends_word text n → n < length text → is_plain_char (get_or text n 0) ≡ true → Scanned ends_word text (n + 1)
scanned_plain text n utf8 s lt plain =
    let small : get_or text n 0 < 128 = grind arith in
    scanned_step ends_word text n 1 (get_or text n 0) _ utf8 s (ascii_at text n lt small) (plain_or_end _ small ∙ rw plain refl) (sym (len_utf8_ascii _ small))

pub cut_at_byte : (text : List ℕ) (n : ℕ) → IsUtf8 text → Scanned ends_word text n → n < length text → is_plain_char (get_or text n 0) ≡ false → get_or text n 0 < 128 → CutsBefore ends_word text n
cut_at_byte text n utf8 s lt ends small = cut_at ends_word text n utf8 s (rw (ascii_at text n lt small, plain_or_end _ small, ends) refl)

-- Capital letters are bytes.
capital_small : (c : ℕ) → is_no_capital c ≡ false → c < 128
capital_small c h = grind arith

pub scanned_capital : (text : List ℕ) (n c : ℕ) (cs : List ℕ) → IsUtf8 text → Scanned is_no_capital text n → chars (drop n text) ≡ c ∷ cs → is_no_capital c ≡ false → Scanned is_no_capital text (n + 1)
scanned_capital text n c cs utf8 s e h = scanned_step is_no_capital text n 1 c cs utf8 s e h (sym (len_utf8_ascii c (capital_small c h)))

encodes_capitals : (cs : List ℕ) → encodes (front_until is_no_capital cs) ≡ front_until is_no_capital cs
encodes_capitals [] = refl
encodes_capitals (c ∷ cs) = grind (arith, encodes_capitals cs, encode_ascii c, capital_small c)

pub capitals_are_bytes : (text : List ℕ) (n : ℕ) → IsUtf8 text → CutsBefore is_no_capital text n → take n text ≡ front_until is_no_capital (chars text)
capitals_are_bytes text n utf8 cut =
    sym (encodes-chars (take n text) (IsUtf8-take text n utf8 cut.boundary)) ∙ ap encodes cut.front ∙ encodes_capitals (chars text)

-- what is cut before a character that does not pass is not empty
pub cut_some : (p : ℕ → Bool) (text cs : List ℕ) (n c : ℕ) → CutsBefore p text n → chars text ≡ c ∷ cs → p c ≡ false → 0 < n
cut_some p text cs n c cut e fail = let front = cut.front in grind (arith, front, chars-nil)

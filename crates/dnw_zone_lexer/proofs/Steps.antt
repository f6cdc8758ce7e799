-- What stands next, by the parts in which a lexer reads it.
use Rattle.std.proofs.Common.{◌≡◌, ℕ, ◌≤◌, Bool, true, false, if◌then◌else◌, ◌==◌, ◌||◌, arith, List, String, [], ◌∷◌, ◌++◌, length, take, drop, map, refl, sym, ap, subst, ◌∙◌, append_assoc, eqb-true}
use Rattle.std.specs.Char.{is_whitespace, is_control, IsScalar}
use Rattle.std.specs.List.{AllZip}
use Rattle.std.specs.String.{string_bytes}
use lib.Utf8.{encode}
use Rattle.std.specs.Str.{chars, IsUtf8}
use Rattle.std.specs.declared.alloc.Global.{Global}
use Rattle.std.proofs.lemmas.Bool.{ne_eqb}
use Rattle.std.proofs.lemmas.Str.{chars-append, chars_past_char, chars-nil, encodes-chars, IsUtf8-append, IsUtf8-encode, IsUtf8-take}
use Rattle.std.proofs.lemmas.List.{append-nil, length-append, nil_from_length}
use Rattle.dnw_zone_lexer.specs.Tokens.{Step, front_until, from, is_line_end, ends_word, semicolon, close_paren, quote, backslash, list_after, ListState, Between, Comment, Word, QuoteState, Plain, Escaped, AfterOne, AfterTwo, quoted_after}
use Rattle.dnw_zone_lexer.specs.Lexing.{characters, MayRunOut}
use Rattle.dnw_zone_lexer.specs.Inside.Finds.{StopsRun, ends_run, CutsBefore}

-- texts of the same bytes have the same characters
pub same_characters : (xs ys : List (String Global)) → AllZip (λ s t. string_bytes t ≡ string_bytes s) xs ys → map characters ys ≡ map characters xs
same_characters [] [] h = refl
same_characters [] (y ∷ ys) h = absurd h
same_characters (x ∷ xs) [] h = absurd h
same_characters (x ∷ xs) (y ∷ ys) (first, rest) = rw (ap chars first, same_characters xs ys rest) refl

-- A comment in a list goes up to the end of its line.
pub list_after_comment : (words : List (List ℕ)) (cs : List ℕ) → list_after words Comment cs ≡ list_after words Between (from is_line_end cs)
list_after_comment words [] = refl
list_after_comment words (c ∷ cs) = grind (arith, list_after_comment words cs)

-- A word of a list is all characters up to the first that ends it.
by_tests : (w k s p : Bool) (a b d e f g : Step) → (if w then a else if p then b else if s then d else if k then e else f)
    ≡ (if w || k || s || p then (if w then a else if p then b else if s then d else if k then e else g) else f)
by_tests w k s p a b d e f g = grind arith

word_next : (words : List (List ℕ)) (word : List ℕ) (c : ℕ) (cs : List ℕ)
    → list_after words (Word word) (c ∷ cs) ≡ (if ends_word c then list_after (words ++ word ∷ []) Between (c ∷ cs) else list_after words (Word (word ++ c ∷ [])) cs)
word_next words word c cs = by_tests (is_whitespace c) (is_control c) (c == semicolon) (c == close_paren) _ _ _ _ _ _

begin_next : (words : List (List ℕ)) (c : ℕ) (cs : List ℕ)
    → list_after words Between (c ∷ cs) ≡ (if ends_word c then list_after words Between (c ∷ cs) else list_after words (Word (c ∷ [])) cs)
begin_next words c cs = by_tests (is_whitespace c) (is_control c) (c == semicolon) (c == close_paren) _ _ _ _ _ _

pub list_after_word : (words : List (List ℕ)) (cs word : List ℕ) → list_after words (Word word) cs ≡ list_after (words ++ (word ++ front_until ends_word cs) ∷ []) Between (from ends_word cs)
list_after_word words [] word = refl
list_after_word words (c ∷ cs) word =
    word_next words word c cs ∙ grind (arith, list_after_word words cs, append-nil word, append_assoc word (c ∷ []) (front_until ends_word cs))

-- A word of a list begins with a character that does not end it.
pub list_after_begin : (words : List (List ℕ)) (cs ds : List ℕ) (c : ℕ) → cs ≡ c ∷ ds → ends_word c ≡ false → list_after (words ++ front_until ends_word cs ∷ []) Between (from ends_word cs) ≡ list_after words Between cs
list_after_begin words cs ds c e h = rw e (sym (begin_next words c ds ∙ rw h (list_after_word words ds (c ∷ []))))

-- A quoted text goes on up to a quote or a backslash.
pub quoted_after_run : (cs text : List ℕ) → quoted_after text Plain cs ≡ quoted_after (text ++ front_until ends_run cs) Plain (from ends_run cs)
quoted_after_run [] text = refl
quoted_after_run (c ∷ cs) text = grind (arith, quoted_after_run cs, append-nil text, append_assoc text (c ∷ []) (front_until ends_run cs))

pub list_after_remark : (words : List (List ℕ)) (cs ds : List ℕ) (c : ℕ) → cs ≡ c ∷ ds → c ≡ semicolon → list_after words Between (from is_line_end ds) ≡ list_after words Between cs
list_after_remark words cs ds c e h = rw (e, h) (sym (list_after_comment words ds))

pub no_end : (c : ℕ) → is_whitespace c ≡ false → (c ≡ close_paren → ⊥) → (c ≡ semicolon → ⊥) → is_control c ≡ false → ends_word c ≡ false
no_end c w p s k = rw (w, k, ne_eqb c semicolon s, ne_eqb c close_paren p) refl

-- a text with one more character
pub characters_push : (text : List ℕ) (c : ℕ) → IsUtf8 text → IsScalar c → chars (text ++ encode c) ≡ chars text ++ c ∷ []
characters_push text c utf8 scalar =
    chars-append text (encode c) utf8
    ∙ ap (λ (more : List ℕ). chars text ++ more) (chars_past_char (encode c) [] c (IsUtf8-encode c scalar) (sym (append-nil (encode c))) ∙ ap (λ (more : List ℕ). c ∷ more) chars-nil)

-- A quoted text after its next run of characters.
pub stops_run : (cs : List ℕ) → StopsRun (from ends_run cs)
stops_run [] = tt
stops_run (c ∷ cs) = grind (arith, stops_run cs)

pub quoted_after_taken : (text left longer : List ℕ) (n : ℕ) → CutsBefore ends_run left n → IsUtf8 text → longer ≡ text ++ take n left → quoted_after (chars longer) Plain (chars (drop n left)) ≡ quoted_after (chars text) Plain (chars left)
quoted_after_taken text left longer n cut utf8 e =
    rw (e, chars-append text (take n left) utf8, cut.front, cut.back) (sym (quoted_after_run (chars left) (chars text)))

pub quoted_after_escape : (text cs ds : List ℕ) (c : ℕ) → cs ≡ c ∷ ds → (c ≡ quote → ⊥) → StopsRun cs → quoted_after text Plain cs ≡ quoted_after text Escaped ds
quoted_after_escape text cs ds c e other stops =
    let escape : c ≡ backslash = eqb-true c backslash (rw (ne_eqb c quote other) at (subst StopsRun e stops)) in
    rw (e, escape) refl

-- a text that is not empty has a character
pub some_chars : (text : List ℕ) → IsUtf8 text → 1 ≤ length text → 1 ≤ length (chars text)
some_chars text utf8 some = let e = encodes-chars text utf8 in grind (arith, e, nil_from_length (chars text))

-- A list or a quoted text that has kept something may find no memory.
pub list_after_may : (cs : List ℕ) (words : List (List ℕ)) (state : ListState) → 1 ≤ length words → MayRunOut true (list_after words state cs)
list_after_may [] words state kept = refl
list_after_may (c ∷ cs) words Comment kept = grind (arith, list_after_may cs)
list_after_may (c ∷ cs) words Between kept = grind (arith, list_after_may cs)
list_after_may (c ∷ cs) words (Word word) kept = grind (arith, list_after_may cs, length-append)

pub quoted_after_may : (cs text : List ℕ) (state : QuoteState) → 1 ≤ length text → MayRunOut true (quoted_after text state cs)
quoted_after_may [] text Plain kept = refl
quoted_after_may [] text Escaped kept = refl
quoted_after_may [] text (AfterOne a) kept = refl
quoted_after_may [] text (AfterTwo a b) kept = refl
quoted_after_may (c ∷ cs) text Plain kept = grind (arith, quoted_after_may cs, length-append)
quoted_after_may (c ∷ cs) text Escaped kept = grind (arith, quoted_after_may cs, length-append)
quoted_after_may (c ∷ cs) text (AfterOne a) kept = grind (arith, quoted_after_may cs)
quoted_after_may (c ∷ cs) text (AfterTwo a b) kept = grind (arith, quoted_after_may cs, length-append)

-- A word of a list and the characters of a quoted text are kept, and may find no memory.
pub word_may : (words : List (List ℕ)) (all cs ds : List ℕ) (c : ℕ) → cs ≡ c ∷ ds → ends_word c ≡ false
    → list_after words Between cs ≡ list_after [] Between all → MayRunOut true (list_after [] Between all)
word_may words all cs ds c e h step =
    subst (MayRunOut true) (list_after_begin words cs ds c e h ∙ step)
    (list_after_may (from ends_word cs) (words ++ front_until ends_word cs ∷ []) Between (omega (arith, length-append words (front_until ends_word cs ∷ []))))

pub run_may : (text left : List ℕ) (n : ℕ) → CutsBefore ends_run left n → IsUtf8 text → IsUtf8 left → 1 ≤ length (text ++ take n left)
    → MayRunOut true (quoted_after (chars text) Plain (chars left))
run_may text left n cut utf8 whole some =
    subst (MayRunOut true) (quoted_after_taken text left (text ++ take n left) n cut utf8 refl)
    (quoted_after_may (chars (drop n left)) (chars (text ++ take n left)) Plain (some_chars _ (IsUtf8-append text (take n left) utf8 (IsUtf8-take left n whole cut.boundary)) some))

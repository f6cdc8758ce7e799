-- The texts of a token are no longer than the octets that it takes.
use Rattle.std.proofs.Common.{◌≡◌, ℕ, ◌+◌, ◌-◌, ◌*◌, ◌≤◌, Bool, true, false, not, ◌||◌, ◌==◌, if◌then◌else◌, List, [], ◌∷◌, ◌++◌, length, sym, ap, subst, ◌∙◌, length-append, arith}
use Rattle.std.specs.Prelude.{⊤, codes}
use Rattle.std.specs.Char.{is_whitespace, is_control, is_ascii_digit, len_utf8}
use Rattle.std.specs.Str.{bytes_eq, chars}
use Rattle.std.proofs.lemmas.List.Concat.{flat_map-append}
use Rattle.std.proofs.lemmas.Str.{chars-append, encodes-append, encodes-chars, length-encode, len_utf8_bounds}
use lib.Utf8.{encode, encodes}
use Rattle.dnw_zone_lexer.specs.Tokens.{TokenValue, Step, Gives, Ends, Stops, LexState, StartLine, RestOfLine, Failed, front_until, from, is_line_end, line_end, line_feed, carriage_return, after_comment, word_before, ends_word, semicolon, close_paren, list_after, ListState, Between, Comment, Word, quoted_after, QuoteState, Plain, Escaped, AfterOne, AfterTwo, quote, backslash, is_numeric, control_entry, is_no_capital, at_sign, open_paren, dollar, line_entry, rest_of_line, next_from}
use Rattle.dnw_zone_lexer.proofs.Cuts.{before_from}
use Rattle.dnw_c_zone.specs.TokenCalls.{LexesToken, list_bytes, token_bytes, word_bytes}

abbrev size : List ℕ → ℕ
size cs = length (encodes cs)

-- the texts of the token and what is left after it are so many octets at most
Small : ℕ → Step → Type 0
Small b (Gives token rest state) = length (token_bytes token) + size rest ≤ b
Small b Ends = ⊤
Small b (Stops fault) = ⊤

by_if : (b : ℕ) (t : Bool) (x y : Step) → Small b x → Small b y → Small b (if t then x else y)
by_if b true x y hx hy = hx
by_if b false x y hx hy = hy

size_append : (cs ds : List ℕ) → size (cs ++ ds) ≡ size cs + size ds
size_append cs ds = ap length (encodes-append cs ds) ∙ length-append (encodes cs) (encodes ds)

size_one : (c : ℕ) → size (c ∷ []) ≡ len_utf8 c
size_one c = omega (arith, length-append (encode c) [], length-encode c)

-- a character takes one to four octets
size_cons : (c : ℕ) (cs : List ℕ) → (1 + size cs ≤ size (c ∷ cs)) × (size (c ∷ cs) ≤ 4 + size cs)
size_cons c cs =
    let whole : length (encodes (c ∷ cs)) ≡ len_utf8 c + length (encodes cs) = omega (arith, length-append (encode c) (encodes cs), length-encode c) in
    let (least, most) = len_utf8_bounds c in
    (omega (arith, whole, least), omega (arith, whole, most))

size_push : (cs : List ℕ) (c : ℕ) (ds : List ℕ) → size (cs ++ c ∷ []) + size ds ≡ size cs + size (c ∷ ds)
size_push cs c ds = omega (arith, size_append cs (c ∷ []), size_append (c ∷ []) ds)

size_from : (p : ℕ → Bool) (cs : List ℕ) → size (front_until p cs) + size (from p cs) ≡ size cs
size_from p cs = sym (size_append (front_until p cs) (from p cs)) ∙ ap size (before_from p cs)

words_push : (words : List (List ℕ)) (word : List ℕ) → length (list_bytes (words ++ word ∷ [])) ≡ length (list_bytes words) + (size word + 1)
words_push words word =
    ap length (flat_map-append word_bytes words (word ∷ [])) ∙ length-append (list_bytes words) (list_bytes (word ∷ []))
    ∙ ap (λ (n : ℕ). length (list_bytes words) + n) (length-append (word_bytes word) [] ∙ omega (arith, length-append (encodes word) (0 ∷ [])))

-- the octets of a list that are kept so far
kept : List (List ℕ) → ListState → ℕ
kept words (Word word) = length (list_bytes words) + size word
kept words Between = length (list_bytes words)
kept words Comment = length (list_bytes words)

list_small : (cs : List ℕ) (words : List (List ℕ)) (state : ListState) (b : ℕ) → kept words state + size cs ≤ b → Small b (list_after words state cs)
unfolding Small kept
list_small [] words state b le = tt
list_small (c ∷ cs) words Comment b le =
    let fits : length (list_bytes words) + size cs ≤ b = omega (arith, (size_cons c cs).0) in
    by_if b (is_line_end c) _ _ (list_small cs words Between b fits) (list_small cs words Comment b fits)
list_small (c ∷ cs) words Between b le =
    let fits : length (list_bytes words) + size cs ≤ b = omega (arith, (size_cons c cs).0) in
    by_if b (is_whitespace c) _ _ (list_small cs words Between b fits)
    (by_if b (c == close_paren) _ _ fits
    (by_if b (c == semicolon) _ _ (list_small cs words Comment b fits)
    (by_if b (is_control c) _ _ tt (list_small cs words (Word (c ∷ [])) b (omega (arith, size_push [] c cs))))))
list_small (c ∷ cs) words (Word word) b le =
    let more : length (list_bytes (words ++ word ∷ [])) + size cs ≤ b = omega (arith, (size_cons c cs).0, words_push words word) in
    by_if b (is_whitespace c) _ _ (list_small cs (words ++ word ∷ []) Between b more)
    (by_if b (c == close_paren) _ _ more
    (by_if b (c == semicolon) _ _ (list_small cs (words ++ word ∷ []) Comment b more)
    (by_if b (is_control c) _ _ tt (list_small cs words (Word (word ++ c ∷ [])) b (omega (arith, size_push word c cs))))))

-- the octets of an escape so far
escaped : QuoteState → ℕ
escaped Plain = 0
escaped Escaped = 1
escaped (AfterOne a) = 2
escaped (AfterTwo a x) = 3

quoted_small : (cs text : List ℕ) (state : QuoteState) (b : ℕ) → size text + escaped state + size cs ≤ b → Small b (quoted_after text state cs)
unfolding Small escaped
quoted_small [] text Plain b le = tt
quoted_small [] text Escaped b le = tt
quoted_small [] text (AfterOne a) b le = tt
quoted_small [] text (AfterTwo a x) b le = tt
quoted_small (c ∷ cs) text Plain b le =
    by_if b (c == quote) _ _ (let fits : size text + size cs ≤ b = omega (arith, (size_cons c cs).0) in fits)
    (by_if b (c == backslash) _ _ (quoted_small cs text Escaped b (omega (arith, (size_cons c cs).0)))
    (quoted_small cs (text ++ c ∷ []) Plain b (omega (arith, size_push text c cs))))
quoted_small (c ∷ cs) text Escaped b le =
    by_if b (is_control c) _ _ tt
    (by_if b (not (is_numeric c)) _ _ (quoted_small cs (text ++ c ∷ []) Plain b (omega (arith, size_push text c cs)))
    (by_if b (is_ascii_digit c) _ _ (quoted_small cs text (AfterOne (c - 48)) b (omega (arith, (size_cons c cs).0))) tt))
quoted_small (c ∷ cs) text (AfterOne a) b le =
    by_if b (is_ascii_digit c) _ _ (quoted_small cs text (AfterTwo a (c - 48)) b (omega (arith, (size_cons c cs).0))) tt
quoted_small (c ∷ cs) text (AfterTwo a x) b le =
    let d : ℕ = 65536 * a + 256 * x + (c - 48) in
    by_if b (is_ascii_digit c) _ _ (quoted_small cs (text ++ d ∷ []) Plain b (omega (arith, (size_cons c cs).0, size_push text d cs, (size_cons d cs).1))) tt

line_end_small : (cs : List ℕ) (b : ℕ) → size cs ≤ b → Small b (line_end cs)
unfolding Small
line_end_small [] b le = tt
line_end_small (c ∷ cs) b le =
    let fits : size cs ≤ b = omega (arith, (size_cons c cs).0) in
    by_if b (c == line_feed) _ _ (omega (arith, fits)) (by_if b (c == carriage_return) _ _ (line_end_small cs b fits) tt)

comment_small : (cs : List ℕ) (b : ℕ) → size cs ≤ b → Small b (after_comment cs)
unfolding Small
comment_small [] b le = tt
comment_small (c ∷ cs) b le = line_end_small (c ∷ cs) b le

word_small : (word cs : List ℕ) (b : ℕ) → size word + size cs ≤ b → Small b (word_before word cs)
unfolding Small
word_small word [] b le = le
word_small word (c ∷ cs) b le = by_if b (is_whitespace c || c == semicolon) _ _ le (by_if b (c == close_paren) _ _ tt tt)

control_small : (word cs : List ℕ) (b : ℕ) → size cs ≤ b → Small b (control_entry word cs)
unfolding Small
control_small word cs b le = by_if b (bytes_eq word (codes "INCLUDE")) _ _ (omega arith) (by_if b (bytes_eq word (codes "ORIGIN")) _ _ (omega arith) (by_if b (bytes_eq word (codes "TTL")) _ _ (omega arith) tt))

entry_small : (c : ℕ) (cs : List ℕ) (b : ℕ) → size (c ∷ cs) ≤ b → Small b (line_entry c cs)
unfolding Small kept escaped
entry_small c cs b le =
    let fits : size cs ≤ b = omega (arith, (size_cons c cs).0) in
    by_if b (c == at_sign) _ _ (omega (arith, fits))
    (by_if b (c == open_paren) _ _ (list_small cs [] Between b (omega (arith, fits)))
    (by_if b (c == close_paren) _ _ tt
    (by_if b (c == dollar) _ _ (control_small (front_until is_no_capital cs) (from is_no_capital cs) b (omega (arith, size_from is_no_capital cs)))
    (by_if b (c == quote) _ _ (quoted_small cs [] Plain b (omega (arith, fits)))
    (by_if b (c == semicolon) _ _ (comment_small (from is_line_end cs) b (omega (arith, size_from is_line_end cs)))
    (by_if b (is_control c) _ _ tt (word_small (front_until ends_word (c ∷ cs)) (from ends_word (c ∷ cs)) b (omega (arith, size_from ends_word (c ∷ cs))))))))))

rest_of_line_small : (cs : List ℕ) (b : ℕ) → size cs ≤ b → Small b (rest_of_line cs)
unfolding Small
rest_of_line_small [] b le = tt
rest_of_line_small (c ∷ cs) b le =
    by_if b (is_line_end c) _ _ (line_end_small (c ∷ cs) b le)
    (by_if b (is_whitespace c) _ _ (rest_of_line_small cs b (omega (arith, (size_cons c cs).0))) (entry_small c cs b le))

next_small : (state : LexState) (cs : List ℕ) → Small (size cs) (next_from state cs)
unfolding Small
next_small StartLine [] = tt
next_small StartLine (c ∷ cs) =
    by_if _ (is_line_end c) _ _ (line_end_small (c ∷ cs) _ (omega arith))
    (by_if _ (is_whitespace c) _ _ (omega (arith, (size_cons c cs).0)) (entry_small c cs _ (omega arith)))
next_small RestOfLine cs = rest_of_line_small cs _ (omega arith)
next_small Failed cs = tt

-- So a buffer as long as what is left has room for them.
pub fits_left : (left : List ℕ) (state : LexState) (value : TokenValue) (len : ℕ) (line : Bool) → LexesToken left state value len line → length (token_bytes value) ≤ length left
unfolding Small
fits_left left state value len line (own, rest, is, utf8, _, gives) =
    let small : length (token_bytes value) + length (encodes (chars rest)) ≤ length (encodes (chars left)) = subst (Small (size (chars left))) gives (next_small state (chars left)) in
    let parts : length (encodes (chars left)) ≡ length own + length (encodes (chars rest)) =
    ap (λ (cs : List ℕ). length (encodes cs)) (ap chars is ∙ chars-append own rest utf8) ∙ ap length (encodes-append (chars own) (chars rest))
    ∙ length-append (encodes (chars own)) (encodes (chars rest)) ∙ ap (λ (bs : List ℕ). length bs + length (encodes (chars rest))) (encodes-chars own utf8)
    in
    omega (arith, small, parts, ap length is, length-append own rest)

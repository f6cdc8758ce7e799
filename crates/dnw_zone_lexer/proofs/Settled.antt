-- After a token the end of the text is left, and less than all. What is settled is the same in a longer text.
use Rattle.std.proofs.Common.{◌≡◌, ℕ, ◌≤◌, Bool, true, false, ◌==◌, if◌then◌else◌, List, [], ◌∷◌, ◌++◌, length, Option, Some, None, Result, Ok, Err, ◌<◌, refl, sym, ap, subst, arith}
use Rattle.std.specs.Prelude.{⊤, IsTrue, ◌↔◌}
use Rattle.std.specs.Char.{is_whitespace, is_control}
use Rattle.std.proofs.lemmas.List.{length-append}
use Rattle.std.specs.List.{AllByRecursion}
use Rattle.dnw_zone_lexer.specs.Lexing.{line_state, Lexes, Calls, IsToken}
use Rattle.dnw_zone_lexer.specs.declared.zone_lex.Token.{Token}
use Rattle.dnw_zone_lexer.specs.declared.errors.LexerError.{LexerError}
use Rattle.dnw_zone_lexer.specs.Tokens.{TokenValue, Step, Gives, Ends, Stops, IsSettledStep, LexFault, LexerValue, LexState, StartLine, RestOfLine, Failed, front_until, from, is_line_end, line_end, after_comment, word_before, ends_word, semicolon, close_paren, list_after, ListState, Between, Comment, Word, quoted_after, QuoteState, Plain, Escaped, AfterOne, AfterTwo, control_entry, is_no_capital, line_entry, rest_of_line, next_from}

-- a lexer has not failed
abbrev pub IsOnLine : LexState → Type 0
IsOnLine StartLine = ⊤
IsOnLine RestOfLine = ⊤
IsOnLine Failed = ⊥

-- after the token the end of the characters is left, fewer than all, and the lexer is on a line
HasEnd : List ℕ → Step → Type 0
HasEnd cs (Gives token rest state) = ((c : ℕ) × (front : List ℕ) × (cs ≡ c ∷ front ++ rest)) × IsOnLine state
HasEnd cs Ends = ⊤
HasEnd cs (Stops fault) = ⊤

-- the same, with more characters after the text
abbrev pub and_more : List ℕ → Step → Step
and_more more (Gives token rest state) = Gives token (rest ++ more) state
and_more more step = step

-- and_more is what t is, once s is settled
Goes : List ℕ → List ℕ → Step → Step → Type 0
Goes more cs s t = HasEnd cs s × (IsSettledStep s → t ≡ and_more more s)

if_goes : (more cs : List ℕ) (b : Bool) (x y s t : Step) → (b ≡ true → Goes more cs x s) → (b ≡ false → Goes more cs y t) → Goes more cs (if b then x else y) (if b then s else t)
if_goes more cs true x y s t hx hy = hx refl
if_goes more cs false x y s t hx hy = hy refl

-- one more character before them
next : (more : List ℕ) (c : ℕ) (cs : List ℕ) (s t : Step) → Goes more cs s t → Goes more (c ∷ cs) s t
unfolding HasEnd Goes
next more c cs (Gives token rest state) t (((d, front, e), on), same) = (((c, d ∷ front, ap (λ (l : List ℕ). c ∷ l) e), on), same)
next more c cs Ends t (h, same) = (tt, same)
next more c cs (Stops fault) t (h, same) = (tt, same)

gives : (more : List ℕ) (c : ℕ) (cs whole : List ℕ) (token : TokenValue) (state : LexState) → IsOnLine state → whole ≡ cs ++ more → Goes more (c ∷ cs) (Gives token cs state) (Gives token whole state)
unfolding HasEnd Goes
gives more c cs whole token state on e = (((c, [], refl), on), λ _. ap (λ (l : List ℕ). Gives token l state) e)

halts : (more cs : List ℕ) (fault : LexFault) → Goes more cs (Stops fault) (Stops fault)
unfolding HasEnd Goes
halts more cs fault = (tt, λ _. refl)

-- what is not settled
runs_on : (more cs : List ℕ) (fault : LexFault) (t : Step) → (IsSettledStep (Stops fault) → ⊥) → Goes more cs (Stops fault) t
unfolding HasEnd Goes
runs_on more cs fault t unsettled = (tt, λ settled. absurd (unsettled settled))

ends : (more cs : List ℕ) (t : Step) → Goes more cs Ends t
unfolding HasEnd Goes
ends more cs t = (tt, λ settled. absurd settled)

-- the end of the text comes after a character
word_ends : (more : List ℕ) (c : ℕ) (token : TokenValue) (state : LexState) (t : Step) → IsOnLine state → Goes more (c ∷ []) (Gives token [] state) t
unfolding HasEnd Goes
word_ends more c token state t on = (((c, [], refl), on), λ settled. absurd settled)

if_ends : (more cs : List ℕ) (b : Bool) (x y t : Step) → Goes more cs x t → Goes more cs y t → Goes more cs (if b then x else y) t
if_ends more cs true x y t hx hy = hx
if_ends more cs false x y t hx hy = hy

ruleset reading = (if_goes, next, gives, halts, runs_on, ends, tt)

line_end_goes : (more cs : List ℕ) → Goes more cs (line_end cs) (line_end (cs ++ more))
line_end_goes more [] = search reading
line_end_goes more (c ∷ cs) = search (reading, line_end_goes more cs)

list_after_goes : (more cs : List ℕ) (words : List (List ℕ)) (state : ListState) → Goes more cs (list_after words state cs) (list_after words state (cs ++ more))
list_after_goes more [] words state = search reading
list_after_goes more (c ∷ cs) words Comment = search (reading, list_after_goes more cs)
list_after_goes more (c ∷ cs) words Between = search (reading, list_after_goes more cs) depth 8
list_after_goes more (c ∷ cs) words (Word word) = search (reading, list_after_goes more cs) depth 8

quoted_after_goes : (more cs text : List ℕ) (state : QuoteState) → Goes more cs (quoted_after text state cs) (quoted_after text state (cs ++ more))
quoted_after_goes more [] text Plain = search reading
quoted_after_goes more [] text Escaped = search reading
quoted_after_goes more [] text (AfterOne a) = search reading
quoted_after_goes more [] text (AfterTwo a b) = search reading
quoted_after_goes more (c ∷ cs) text Plain = search (reading, quoted_after_goes more cs)
quoted_after_goes more (c ∷ cs) text Escaped = search (reading, quoted_after_goes more cs) depth 8
quoted_after_goes more (c ∷ cs) text (AfterOne a) = search (reading, quoted_after_goes more cs)
quoted_after_goes more (c ∷ cs) text (AfterTwo a b) = search (reading, quoted_after_goes more cs)

-- What is read up to a character that passes, and then from it on, after a character.
abbrev IsCut : List ℕ → (List ℕ → List ℕ → Step) → Type 0
IsCut more F = ((word : List ℕ) (c : ℕ) (t : Step) → Goes more (c ∷ []) (F word []) t)
    × ((word : List ℕ) (c d : ℕ) (cs : List ℕ) → Goes more (c ∷ d ∷ cs) (F word (d ∷ cs)) (F word (d ∷ cs ++ more)))

cut_step : (more : List ℕ) (p : ℕ → Bool) (F : List ℕ → List ℕ → Step) (c d : ℕ) (cs : List ℕ) (b : Bool) → p d ≡ b → IsCut more F
    → Goes more (d ∷ cs) (F (d ∷ front_until p cs) (from p cs)) (F (d ∷ front_until p (cs ++ more)) (from p (cs ++ more)))
    → Goes more (c ∷ d ∷ cs) (F (front_until p (d ∷ cs)) (from p (d ∷ cs))) (F (front_until p (d ∷ cs ++ more)) (from p (d ∷ cs ++ more)))
cut_step more p F c d cs true h is ih = rw h (is.1 [] c d cs)
cut_step more p F c d cs false h is ih = rw h (next more c (d ∷ cs) _ _ ih)

cut_goes : (more : List ℕ) (p : ℕ → Bool) (F : List ℕ → List ℕ → Step) (c : ℕ) (cs : List ℕ) → IsCut more F
    → Goes more (c ∷ cs) (F (front_until p cs) (from p cs)) (F (front_until p (cs ++ more)) (from p (cs ++ more)))
cut_goes more p F c [] is = is.0 [] c _
cut_goes more p F c (d ∷ cs) is =
    cut_step more p F c d cs (p d) refl is (cut_goes more p (λ word rest. F (d ∷ word) rest) d cs (λ word. is.0 (d ∷ word), λ word. is.1 (d ∷ word)))

comment_cut : (more : List ℕ) → IsCut more (λ _ rest. after_comment rest)
comment_cut more = (λ word c t. ends more (c ∷ []) t, λ word c d cs. next more c (d ∷ cs) _ _ (line_end_goes more (d ∷ cs)))

word_cut : (more : List ℕ) → IsCut more word_before
word_cut more = (λ word c t. search (reading, word_ends), λ word c d cs. search (reading, gives))

control_cut : (more : List ℕ) → IsCut more control_entry
control_cut more = (λ word c t. search (reading, word_ends, if_ends), λ word c d cs. search (reading, gives))

word_goes : (more : List ℕ) (c : ℕ) (cs : List ℕ) → is_whitespace c ≡ false → is_control c ≡ false → (c == semicolon) ≡ false → (c == close_paren) ≡ false
    → Goes more (c ∷ cs) (word_before (front_until ends_word (c ∷ cs)) (from ends_word (c ∷ cs))) (word_before (front_until ends_word (c ∷ cs ++ more)) (from ends_word (c ∷ cs ++ more)))
word_goes more c cs w k s p =
    rw (w, k, s, p) (cut_goes more ends_word (λ word rest. word_before (c ∷ word) rest) c cs (λ word. (word_cut more).0 (c ∷ word), λ word. (word_cut more).1 (c ∷ word)))

entry_goes : (more : List ℕ) (c : ℕ) (cs : List ℕ) → is_whitespace c ≡ false → Goes more (c ∷ cs) (line_entry c cs) (line_entry c (cs ++ more))
entry_goes more c cs space =
    let comment = cut_goes more is_line_end (λ _ rest. after_comment rest) c cs (comment_cut more) in
    let control = cut_goes more is_no_capital control_entry c cs (control_cut more) in
    search (reading, list_after_goes more cs, quoted_after_goes more cs, comment, control, word_goes more c cs) depth 12

rest_of_line_goes : (more cs : List ℕ) → Goes more cs (rest_of_line cs) (rest_of_line (cs ++ more))
rest_of_line_goes more [] = search reading
rest_of_line_goes more (c ∷ cs) = search (reading, line_end_goes more (c ∷ cs), rest_of_line_goes more cs, entry_goes more c cs)

next_from_goes : (state : LexState) (more cs : List ℕ) → Goes more cs (next_from state cs) (next_from state (cs ++ more))
next_from_goes StartLine more [] = search reading
next_from_goes StartLine more (c ∷ cs) = search (reading, line_end_goes more (c ∷ cs), entry_goes more c cs)
next_from_goes RestOfLine more cs = rest_of_line_goes more cs
next_from_goes Failed more cs = search reading

pub settled_more : (state : LexState) (more cs : List ℕ) → IsSettledStep (next_from state cs) → next_from state (cs ++ more) ≡ and_more more (next_from state cs)
unfolding Goes
settled_more state more cs settled = (next_from_goes state more cs).1 settled

-- and so it stays settled
pub settled_stays : (more : List ℕ) (s : Step) → IsSettledStep s → IsSettledStep (and_more more s)
settled_stays more (Gives token [] state) h = absurd h
settled_stays more (Gives token (c ∷ rest) state) h = tt
settled_stays more Ends h = absurd h
settled_stays more (Stops fault) h = h

pub token_ends : (state after : LexState) (cs rest : List ℕ) (token : TokenValue) → next_from state cs ≡ Gives token rest after → ((front : List ℕ) × (cs ≡ front ++ rest)) × IsOnLine after
unfolding HasEnd Goes
token_ends state after cs rest token gives = let ((c, front, e), on) = subst (HasEnd cs) gives (next_from_goes state [] cs).0 in ((c ∷ front, e), on)

-- a lexer on a line is at its start or not
pub on_a_line : (state : LexState) (at : Bool) → IsOnLine state → IsTrue at ↔ (state ≡ StartLine) → line_state at ≡ state
on_a_line StartLine true on h = refl
on_a_line StartLine false on h = let never : false ≡ true = h.1 refl in cc
on_a_line RestOfLine true on h = sym (h.0 refl)
on_a_line RestOfLine false on h = refl
on_a_line Failed at on h = absurd on

-- each token takes at least one character
pub takes_one : (old new : LexerValue) (answer : Result (Option Token) LexerError) → Lexes old answer new → IsToken answer → length new.rest < length old.rest
unfolding HasEnd Goes
takes_one old new (Ok (Some token)) h t =
    let ((c, front, e), on) = subst (HasEnd old.rest) h (next_from_goes old.state [] old.rest).0 in
    omega (arith, ap length e, length-append front new.rest)
takes_one old new (Ok None) h t = absurd t
takes_one old new (Err e) h t = absurd t

-- so calls return no more tokens than there are characters
pub ends_in_time : (answers : List (Result (Option Token) LexerError)) (lexer new : LexerValue) → Calls lexer answers new → AllByRecursion IsToken answers → length answers ≤ length lexer.rest
ends_in_time [] lexer new calls all = omega arith
ends_in_time (answer ∷ answers) lexer new (between, first, others) (token, tokens) =
    omega (arith, takes_one lexer between answer first token, ends_in_time answers between new others tokens)

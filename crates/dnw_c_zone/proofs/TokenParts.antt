-- A token that is found in a part of a text is that of the whole text.
use Rattle.std.proofs.Common.{◌≡◌, ◌⊎◌, ℕ, ◌-◌, ◌≤◌, ◌||◌, ◌==◌, nat_lt, Bool, true, false, Option, Some, None, Result, Ok, Err, List, [], ◌∷◌, ◌++◌, length, take, drop, inl, inr, refl, sym, ap, subst, ◌∙◌, append_assoc, length-append, arith}
use Rattle.std.specs.Prelude.{IsTrue, ◌↔◌}
use Rattle.std.specs.Str.{chars, IsUtf8, IsValidUpTo}
use Rattle.std.proofs.Math.Seq.{take-append_seam}
use Rattle.std.proofs.lemmas.Bool.{both_ways, cases_lt, eqb-true, eqb-false, lt-ltb, ltb-true, or_parts}
use Rattle.std.proofs.lemmas.List.{append-nil, length-take, nil_from_length, take-append-drop}
use Rattle.std.proofs.lemmas.Str.{chars-append, chars-nil, encodes-append, encodes-chars, IsCharBoundary-at_seam, IsUtf8-take}
use lib.Utf8.{encodes}
use Rattle.dnw_zone_lexer.specs.Lexing.{FailsStep, FailsWith, Lexes, ReportsCause, token_value}
use Rattle.dnw_zone_lexer.specs.Tokens.{TokenValue, Step, Gives, Ends, Stops, IsSettledStep, LexFault, LexState, StartLine, LexerValue, next, next_from, EndOfText, IllegalCharacter, UnrecognizedChar, UnclosedList, UnclosedQuote, UnrecognizedDollar, HasFailed}
use Rattle.dnw_zone_lexer.specs.declared.zone_lex.Token.{Token}
use Rattle.dnw_zone_lexer.specs.declared.errors.LexerError.{LexerError}
use Rattle.dnw_zone_lexer.specs.declared.errors.LexerError.TheVariants as why
use Rattle.dnw_zone_lexer.proofs.Steps.{some_chars}
use Rattle.dnw_zone_lexer.proofs.Settled.{and_more, on_a_line, settled_more, settled_stays, token_ends}
use Rattle.dnw_c_zone.specs.TokenCalls.{Decides, LexesToken, is_decided}
use Rattle.dnw_c_zone.specs.Inside.TokenParts.{settles}

-- the octets of a token that stands next in a text
own_of : (part rest front : List ℕ) → IsUtf8 part → IsUtf8 rest → chars part ≡ front ++ chars rest → (own : List ℕ) × (part ≡ own ++ rest) × IsUtf8 own
own_of part rest front all some same =
    let own : List ℕ = encodes front in
    let is : part ≡ own ++ rest =
    sym (encodes-chars part all) ∙ ap encodes same ∙ encodes-append front (chars rest) ∙ ap (λ (t : List ℕ). own ++ t) (encodes-chars rest some)
    in
    (own, is, subst IsUtf8 (ap (take (length own)) is ∙ take-append_seam own rest) (IsUtf8-take part (length own) all (IsCharBoundary-at_seam part own rest is some)))

-- what stands next in a longer text
grown : (state after : LexState) (token : TokenValue) (cs rest more : List ℕ) → next_from state cs ≡ Gives token rest after
    → ((more ≡ []) ⊎ (1 ≤ length rest)) → next_from state (cs ++ more) ≡ Gives token (rest ++ more) after
grown state after token cs rest more gives (inl none) = rw none (rw (append-nil cs, append-nil rest) gives)
grown state after token cs [] more gives (inr some) = absurd (omega arith)
grown state after token cs (c ∷ rest) more gives (inr some) =
    settled_more state more cs (subst IsSettledStep (sym gives) tt) ∙ ap (and_more more) gives

pub taken : (left part more rest : List ℕ) (state after : LexState) (token : TokenValue) (flag : Bool) → left ≡ part ++ more → IsUtf8 part → IsUtf8 rest
    → next_from state (chars part) ≡ Gives token (chars rest) after → ((more ≡ []) ⊎ (1 ≤ length (chars rest))) → IsTrue flag ↔ (after ≡ StartLine)
    → LexesToken left state token (length part - length rest) flag
taken left part more rest state after token flag is all some gives ends line =
    let ((front, same), on) = token_ends state after (chars part) (chars rest) token gives in
    let (own, cut, text) = own_of part rest front all some same in
    let more_chars = λ (e : more ≡ []). ap chars e ∙ chars-nil in
    let whole : next_from state (chars left) ≡ Gives token (chars (rest ++ more)) after =
    rw (ap chars is ∙ chars-append part more all, chars-append rest more some)
    (grown state after token (chars part) (chars rest) (chars more) gives (elim ends [ inl e ↦ inl (more_chars e) | inr e ↦ inr e ]))
    in (
      own,
      rest ++ more,
      is ∙ ap (λ (t : List ℕ). t ++ more) cut ∙ append_assoc own rest more,
      text,
      omega (arith, ap length cut, length-append own rest),
      whole ∙ ap (λ (s : LexState). Gives token (chars (rest ++ more)) s) (sym (on_a_line after flag on line)),
    )

pub within : (part rest : List ℕ) (state after : LexState) (token : TokenValue) → IsUtf8 part → IsUtf8 rest → next_from state (chars part) ≡ Gives token (chars rest) after → length rest ≤ length part
within part rest state after token all some gives =
    let ((front, same), on) = token_ends state after (chars part) (chars rest) token gives in
    let (own, cut, text) = own_of part rest front all some same in
    omega (arith, ap length cut, length-append own rest)

-- a part is all, or has more after the token
by_whole : (left part more rest : List ℕ) (whole : Bool) → left ≡ part ++ more → IsUtf8 rest → (length part == length left) ≡ whole → (whole || nat_lt 0 (length rest)) ≡ true
    → (more ≡ []) ⊎ (1 ≤ length (chars rest))
by_whole left part more rest true is some e h = inl (nil_from_length more (omega (arith, eqb-true (length part) (length left) e, ap length is, length-append part more)))
by_whole left part more rest false is some e h = inr (some_chars rest some (ltb-true 0 (length rest) h))

pub decided : (left part more rest : List ℕ) → left ≡ part ++ more → IsUtf8 rest → ((length part == length left) || nat_lt 0 (length rest)) ≡ true → (more ≡ []) ⊎ (1 ≤ length (chars rest))
decided left part more rest is some h = by_whole left part more rest _ is some refl h

-- of two beginnings the shorter begins the longer
begins_longer : (front part rest more : List ℕ) → front ++ rest ≡ part ++ more → length front ≤ length part → (mid : List ℕ) × (part ≡ front ++ mid)
begins_longer [] part rest more e le = (part, refl)
begins_longer (c ∷ front) [] rest more e le = absurd (omega arith)
begins_longer (c ∷ front) (d ∷ part) rest more e le =
    let tail : front ++ rest ≡ part ++ more = cc in
    let head : c ≡ d = cc in
    let (mid, is) = begins_longer front part rest more tail (omega arith) in
    (mid, sym (ap (λ (b : ℕ). b ∷ part) head) ∙ ap (λ (l : List ℕ). c ∷ l) is)

-- an error that reports a fault at a character is the same whatever follows
char_fault : (fault : LexFault) (e : LexerError) → ReportsCause fault e → IsSettledStep (Stops fault) → is_decided e ≡ true
char_fault (IllegalCharacter c) e h s = rw h refl
char_fault (UnrecognizedChar c) e h s = rw h refl
char_fault EndOfText e h s = absurd s
char_fault UnclosedList e h s = absurd s
char_fault UnclosedQuote e h s = absurd s
char_fault (UnrecognizedDollar word) e h s = absurd s
char_fault HasFailed e h s = absurd s

undecided : (step : Step) (e : LexerError) → FailsWith step e → is_decided e ≡ false → IsSettledStep step → ⊥
undecided (Gives token rest state) e h off s = absurd h
undecided Ends e h off s = absurd h
undecided (Stops fault) e h off s = both_ways _ off (char_fault fault e h s)

open_error : (opened : Bool) (step : Step) (e : LexerError) → FailsStep opened step e → is_decided e ≡ false → IsSettledStep step → ⊥
open_error opened step why.EOF h off s = undecided step _ h off s
open_error opened step (why.IllegalCharacter c) h off s = undecided step _ h off s
open_error opened step (why.IllegalState text) h off s = undecided step _ h off s
open_error opened step (why.Message text) h off s = undecided step _ h off s
open_error opened step why.UnclosedList h off s = undecided step _ h off s
open_error opened step why.UnclosedQuotedString h off s = undecided step _ h off s
open_error opened step (why.UnrecognizedChar c) h off s = undecided step _ h off s
open_error opened step (why.UnrecognizedDollar word) h off s = undecided step _ h off s
open_error opened step (why.UnrecognizedOctet octet) h off s = undecided step _ h off s
open_error opened step why.Memory h off s = both_ways _ off refl

-- what is not settled may be another in a longer text
runs_on : (old new : LexerValue) (found : Result (Option Token) LexerError) (rest : List ℕ) → Lexes old found new → chars rest ≡ new.rest
    → settles found (length rest) ≡ false → IsSettledStep (next old) → ⊥
runs_on old new (Ok (Some token)) [] h e off s = subst IsSettledStep (h ∙ ap (λ (t : List ℕ). Gives (token_value token) t new.state) (sym e ∙ chars-nil)) s
runs_on old new (Ok (Some token)) (b ∷ rest) h e off s = both_ways _ off (lt-ltb 0 (length (b ∷ rest)) (omega arith))
runs_on old new (Ok None) rest h e off s = subst IsSettledStep h.0 s
runs_on old new (Err error) rest h e off s = open_error _ (next old) error h.0 off s

-- So no beginning decides that is no longer than such a part.
none_decides : (left part more : List ℕ) (state : LexState) → left ≡ part ++ more → (1 ≤ length more) → (IsSettledStep (next_from state (chars part)) → ⊥)
    → (front : List ℕ) → length front ≤ length part → Decides left state front → ⊥
none_decides left part more state is some on front le d =
    let (mid, longer) = begins_longer front part d.rest more (sym d.begins ∙ is) le in
    elim d.settled [
      | inl none ↦ absurd (omega (arith, le, some, ap length (sym d.begins ∙ is), length-append front d.rest, length-append part more, ap length none))
      | inr settled ↦
          let step = settled_more state (chars mid) (chars front) settled in
          let same = ap (next_from state) (ap chars longer ∙ chars-append front mid d.text) ∙ step in
          on (subst IsSettledStep (sym same) (settled_stays (chars mid) _ settled))
    ]

pub undecided_part : (left part more rest : List ℕ) (state : LexState) (old new : LexerValue) (found : Result (Option Token) LexerError) → left ≡ part ++ more
    → ((length part == length left) || settles found (length rest)) ≡ false → old ≡ record { rest = chars part; state = state } → Lexes old found new → chars rest ≡ new.rest
    → (front : List ℕ) → length front ≤ length part → Decides left state front → ⊥
undecided_part left part more rest state old new found is off here h e =
    let both = or_parts (length part == length left) (settles found (length rest)) off in
    let some : 1 ≤ length more = omega (arith, eqb-false (length part) (length left) both.0, ap length is, length-append part more) in
    none_decides left part more state is some (λ s. runs_on old new found rest h e both.1 (subst (λ (l : LexerValue). IsSettledStep (next l)) (sym here) s))

-- A part of a part is part of the text, and what begins the text and is no longer begins it.
pub part_of : (left part text : List ℕ) (size n : ℕ) → part ≡ take size left → text ≡ take n part → (rest : List ℕ) × (left ≡ text ++ rest)
part_of left part text size n is cut = (
  drop n part ++ drop size left,
  sym (take-append-drop size left) ∙ ap (λ (t : List ℕ). t ++ drop size left) (sym is ∙ sym (take-append-drop n part)) ∙ append_assoc (take n part) (drop n part) (drop size left)
      ∙ ap (λ (t : List ℕ). t ++ (drop n part ++ drop size left)) (sym cut),
)

pub no_longer : (left part front rest : List ℕ) (size n : ℕ) → size ≤ length left → part ≡ take size left → left ≡ front ++ rest → length front ≤ size → IsUtf8 front
    → IsValidUpTo part n → length front ≤ length (take n part)
no_longer left part front rest size n fits is begins few utf8 valid =
    let whole : front ++ rest ≡ part ++ drop size left = sym begins ∙ sym (take-append-drop size left) ∙ ap (λ (t : List ℕ). t ++ drop size left) (sym is) in
    let (mid, longer) = begins_longer front part rest (drop size left) whole (omega (arith, few, fits, ap length is, length-take size left)) in
    let cut : take (length front) part ≡ front = ap (take (length front)) longer ∙ take-append_seam front mid in
    elim (cases_lt n (length front)) [
      | inl lt ↦ absurd (valid.longest (length front) lt (subst IsUtf8 (sym cut) utf8))
      | inr le ↦ omega (arith, le, length-take n part, valid.short)
    ]

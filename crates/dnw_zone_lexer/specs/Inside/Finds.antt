-- What the parts of a lexer find, and what is left of a time.
use Rattle.std.specs.Prelude.{◌≡◌, ℕ, ◌+◌, ◌-◌, ◌<◌, ◌≤◌, ⊤, Bool, true, false, ◌&&◌, ◌||◌, ◌==◌, not, nat_lt, List, [], ◌∷◌, ◌++◌, length, take, drop, Option, Some, None, option_map, Result, Ok, Err}
use Rattle.std.specs.Char.{is_ascii_digit}
use denote.Ref.{Bor}
use Rattle.std.specs.Str.{chars, IsUtf8, IsCharBoundary}
use Rattle.dnw_zone_lexer.specs.Tokens.{LexState, StartLine, RestOfLine, Failed, Step, Gives, Ends, front_until, from, quote, backslash, semicolon, close_paren, QuoteState, Plain, Escaped, quoted_after}
use Rattle.dnw_zone_lexer.specs.Times.{groups_after, total_seconds}
use Rattle.dnw_zone_lexer.specs.Lexing.{token_value, FailsStep}
use Rattle.dnw_zone_lexer.specs.declared.zone_lex.State.{State}
use Rattle.dnw_zone_lexer.specs.declared.zone_lex.State.TheVariants.{StartLine as AtStart, RestOfLine as InLine, Failed as HasStopped}
use Rattle.dnw_zone_lexer.specs.declared.zone_lex.Found.{Found}
use Rattle.dnw_zone_lexer.specs.declared.errors.LexerError.{LexerError}
use Rattle.dnw_zone_lexer.specs.declared.errors.LexerError.TheVariants.{EOF, IllegalCharacter}

abbrev pub lex_state_of : State → LexState
lex_state_of AtStart = StartLine
lex_state_of InLine = RestOfLine
lex_state_of HasStopped = Failed

-- A part finds what stands next, which is opened as a list or a quoted text or not.
abbrev pub FindsToken : Bool → Step → Result (Option Found) LexerError → Type 0
FindsToken opened step (Ok (Some found)) = step ≡ Gives (token_value found.token) (chars found.rest.now) (lex_state_of found.state)
FindsToken opened step (Ok None) = step ≡ Ends
FindsToken opened step (Err e) = FailsStep opened step e

-- A text of these bytes is cut after n of them, before the first character that passes the test.
pub record CutsBefore (p : ℕ → Bool) (text : List ℕ) (n : ℕ) : Type 0 where
  pub within : n ≤ length text
  pub boundary : IsCharBoundary text n
  pub front : chars (take n text) ≡ front_until p (chars text)
  pub back : chars (drop n text) ≡ from p (chars text)

-- a character of a word that is a byte
abbrev pub is_plain_char : ℕ → Bool
is_plain_char c = nat_lt 32 c && nat_lt c 127 && not (c == semicolon) && not (c == close_paren)

-- a text of fewer bytes
abbrev pub IsShorter : List ℕ → List ℕ → Type 0
IsShorter rest text = (length rest < length text) × IsUtf8 rest

-- the first character of a text of these bytes, and the text after it
abbrev pub TakesChar : List ℕ → Option (ℕ × Bor (List ℕ)) → Type 0
TakesChar text None = chars text ≡ []
TakesChar text (Some (c, rest)) = (chars text ≡ c ∷ chars rest.now) × IsShorter rest.now text

-- The rest of an escape is read: its character joins the text, and what is after it is read on.
abbrev pub EscapesFrom : QuoteState → List ℕ → Result (ℕ × Bor (List ℕ)) LexerError → Type 0
EscapesFrom state cs (Ok (c, rest)) = (text : List ℕ) → quoted_after text state cs ≡ quoted_after (text ++ c ∷ []) Plain (chars rest.now)
EscapesFrom state cs (Err e) = (text : List ℕ) → FailsStep true (quoted_after text state cs) e

-- An escape is read after its backslash.
abbrev pub Escapes : List ℕ → Result (ℕ × Bor (List ℕ)) LexerError → Type 0
Escapes cs result = EscapesFrom Escaped cs result

-- the first character is a decimal digit, or a fault
abbrev pub ReadsDigit : List ℕ → Result (ℕ × Bor (List ℕ)) LexerError → Type 0
ReadsDigit cs (Ok (d, rest)) = (c : ℕ) × (cs ≡ c ∷ chars rest.now) × (is_ascii_digit c ≡ true) × (d ≡ c - 48)
ReadsDigit [] (Err e) = e ≡ EOF
ReadsDigit (c ∷ cs) (Err e) = (is_ascii_digit c ≡ false) × (e ≡ IllegalCharacter c)

-- one of two characters
abbrev pub is_either : ℕ → ℕ → ℕ → Bool
is_either a b c = c == a || c == b

-- a quote or a backslash
abbrev pub ends_run : ℕ → Bool
ends_run c = c == quote || c == backslash

-- the text ends, or begins with a quote or a backslash
abbrev pub StopsRun : List ℕ → Type 0
StopsRun [] = ⊤
StopsRun (c ∷ cs) = ends_run c ≡ true

-- the seconds of a time after groups of so many seconds and the digits of a number
abbrev pub seconds_after : ℕ → Option ℕ → List ℕ → Option ℕ
seconds_after total number cs = option_map (λ groups. total + total_seconds groups) (groups_after number cs)

-- what is left of a text from an offset, or at its end
abbrev pub rest_from : List ℕ → Option ℕ → List ℕ
rest_from text None = []
rest_from text (Some offset) = drop offset text

-- the first character is no digit
abbrev pub BeginsNoDigit : List ℕ → Type 0
BeginsNoDigit [] = ⊤
BeginsNoDigit (c ∷ cs) = is_ascii_digit c ≡ false

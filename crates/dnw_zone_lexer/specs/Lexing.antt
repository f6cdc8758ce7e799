-- What a lexer's calls return, and what any number of them do.
use Rattle.std.specs.Prelude.{◌≡◌, ℕ, ◌≤◌, Bool, true, false, ◌||◌, ◌==◌, if◌then◌else◌, IsTrue, ⊤, List, [], ◌∷◌, length, map, Option, Some, None, Result, Ok, Err, String, string_bytes, codes}
use Rattle.std.specs.declared.alloc.Global.{Global}
use Rattle.std.specs.Char.{is_whitespace}
use Rattle.std.specs.Str.{chars}
use Rattle.std.specs.List.{AllByRecursion}
use Rattle.dnw_zone_lexer.specs.Tokens.{open_paren, quote, is_line_end, TokenValue, Blank, Grouped, CharData, AtSign, Include, Origin, Ttl, LineEnd, LexFault, EndOfText, IllegalCharacter, UnrecognizedChar, UnclosedList, UnclosedQuote, UnrecognizedDollar, HasFailed, LexState, StartLine, RestOfLine, Failed, Step, Gives, Ends, Stops, LexerValue, next}
use Rattle.dnw_zone_lexer.specs.declared.zone_lex.Token.{Token}
use Rattle.dnw_zone_lexer.specs.declared.zone_lex.Token.TheVariants.{Blank as BlankToken, List as ListToken, CharData as CharDataToken, At as AtToken, Include as IncludeToken, Origin as OriginToken, Ttl as TtlToken, EOL as EndToken}
use Rattle.dnw_zone_lexer.specs.declared.errors.LexerError.{LexerError}
use Rattle.dnw_zone_lexer.specs.declared.errors.LexerError.TheVariants.{EOF, IllegalCharacter as IllegalError, IllegalState, UnclosedList as ListError, UnclosedQuotedString, UnrecognizedChar as UnrecognizedError, UnrecognizedDollar as DollarError, Memory}

-- the characters of a text
abbrev pub characters : String Global → List ℕ
characters text = chars (string_bytes text)

abbrev pub token_value : Token → TokenValue
token_value BlankToken = Blank
token_value (ListToken words) = Grouped (map characters words.items)
token_value (CharDataToken text) = CharData (characters text)
token_value AtToken = AtSign
token_value IncludeToken = Include
token_value OriginToken = Origin
token_value TtlToken = Ttl
token_value EndToken = LineEnd

-- at the start of a line, or in the rest of one
abbrev pub line_state : Bool → LexState
line_state true = StartLine
line_state false = RestOfLine

-- the error is this fixed text
abbrev pub IsIllegalState : List ℕ → LexerError → Type 0
IsIllegalState text (IllegalState own) = own.now ≡ text
IsIllegalState text error = ⊥

-- the error has a text of these characters
abbrev pub IsDollarError : List ℕ → LexerError → Type 0
IsDollarError word (DollarError own) = characters own ≡ word
IsDollarError word error = ⊥

-- the error reports the fault
abbrev pub ReportsCause : LexFault → LexerError → Type 0
ReportsCause EndOfText e = e ≡ EOF
ReportsCause (IllegalCharacter char) e = e ≡ IllegalError char
ReportsCause (UnrecognizedChar char) e = e ≡ UnrecognizedError char
ReportsCause UnclosedList e = e ≡ ListError
ReportsCause UnclosedQuote e = e ≡ UnclosedQuotedString
ReportsCause (UnrecognizedDollar word) e = IsDollarError word e
ReportsCause HasFailed e = IsIllegalState (codes "the lexer has failed") e

-- a list or a quoted text begins with this character
abbrev pub opens : ℕ → Bool
opens c = c == open_paren || c == quote

-- A list or a quoted text stands next, in the rest of a line after white space.
abbrev pub opens_from : LexState → List ℕ → Bool
opens_from StartLine (c ∷ cs) = opens c
opens_from RestOfLine (c ∷ cs) =
    if is_line_end c then false
    else if is_whitespace c then opens_from RestOfLine cs
    else opens c
opens_from state rest = false

-- What stands next keeps a text: a token with one, or an unrecognized word. A fault in a list or in a quoted text may stand
-- after texts that were kept.
abbrev pub MayRunOut : Bool → Step → Type 0
MayRunOut opened (Gives (Grouped words) rest state) = 1 ≤ length words
MayRunOut opened (Gives (CharData text) rest state) = 1 ≤ length text
MayRunOut opened (Stops (UnrecognizedDollar word)) = 1 ≤ length word
MayRunOut opened (Stops fault) = IsTrue opened
MayRunOut opened step = ⊥

-- the error reports the fault that stands next
abbrev pub FailsWith : Step → LexerError → Type 0
FailsWith (Stops fault) e = ReportsCause fault e
FailsWith step e = ⊥

-- the same, or memory ran out
abbrev pub FailsStep : Bool → Step → LexerError → Type 0
FailsStep opened step Memory = MayRunOut opened step
FailsStep opened step e = FailsWith step e

-- a lexer finds no token
abbrev pub FailsToken : LexerValue → LexerError → Type 0
FailsToken lexer e = FailsStep (opens_from lexer.state lexer.rest) (next lexer) e

-- What a call returns, and the lexer after it. A lexer at the end of its text stays there, and one that has failed
-- stays so.
abbrev pub Lexes : LexerValue → Result (Option Token) LexerError → LexerValue → Type 0
Lexes old (Ok (Some token)) new = next old ≡ Gives (token_value token) new.rest new.state
Lexes old (Ok None) new = (next old ≡ Ends) × (new ≡ record { rest = []; state = RestOfLine })
Lexes old (Err e) new = FailsToken old e × (new ≡ record old { state = Failed })

-- any number of calls, one after the other, and what they return
abbrev pub Calls : LexerValue → List (Result (Option Token) LexerError) → LexerValue → Type 0
Calls old [] new = new ≡ old
Calls old (answer ∷ answers) new = (between : LexerValue) × Lexes old answer between × Calls between answers new

-- the call returned a token
abbrev pub IsToken : Result (Option Token) LexerError → Type 0
IsToken (Ok (Some found)) = ⊤
IsToken answer = ⊥

-- Calls return no more tokens than there are characters, before they return the end or an error.
abbrev pub EndsInTime : LexerValue → Type 0
EndsInTime lexer = (answers : List (Result (Option Token) LexerError)) (new : LexerValue)
    → Calls lexer answers new → AllByRecursion IsToken answers → length answers ≤ length lexer.rest

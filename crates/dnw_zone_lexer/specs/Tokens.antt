-- The tokens of a master file (RFC 1035, section 5.1): what stands next in a text, by its characters. The file is made of
-- lines; parentheses group what crosses a line's end, `;` begins a comment, and quotes hold a text with white space.
use Rattle.std.specs.Prelude.{ℕ, ◌+◌, ◌-◌, ◌*◌, Bool, not, ◌||◌, ◌==◌, if◌then◌else◌, ⊤, List, [], ◌∷◌, ◌++◌, codes}
use Rattle.std.specs.Char.{is_control, is_whitespace, is_ascii_digit, is_ascii_uppercase}
use Rattle.std.specs.Str.{bytes_eq}
use Rattle.ucd_category.specs.declared.GeneralCategory.TheVariants.{DecimalNumber, LetterNumber, OtherNumber}
use Rattle.ucd_category.specs.GeneralCategory.{general_category, general_category_eq}

-- the characters of the rules
abbrev pub line_feed : ℕ
line_feed = 10

abbrev pub carriage_return : ℕ
carriage_return = 13

abbrev pub quote : ℕ
quote = 34

abbrev pub dollar : ℕ
dollar = 36

abbrev pub open_paren : ℕ
open_paren = 40

abbrev pub close_paren : ℕ
close_paren = 41

abbrev pub semicolon : ℕ
semicolon = 59

abbrev pub at_sign : ℕ
at_sign = 64

abbrev pub backslash : ℕ
backslash = 92

-- a token, with the characters of its texts
pub data TokenValue : Type 0 where
  Blank : TokenValue
  Grouped : (words : List (List ℕ)) → TokenValue
  CharData : (text : List ℕ) → TokenValue
  AtSign : TokenValue
  Include : TokenValue
  Origin : TokenValue
  Ttl : TokenValue
  LineEnd : TokenValue

-- why there is no token
pub data LexFault : Type 0 where
  EndOfText : LexFault
  IllegalCharacter : (char : ℕ) → LexFault
  UnrecognizedChar : (char : ℕ) → LexFault
  UnclosedList : LexFault
  UnclosedQuote : LexFault
  UnrecognizedDollar : (word : List ℕ) → LexFault
  HasFailed : LexFault

-- where a lexer is: at the start of a line, in the rest of one, or past an error
pub data LexState : Type 0 where
  StartLine : LexState
  RestOfLine : LexState
  Failed : LexState

-- what stands next: a token, what is left after it and where the lexer then is; the end of the text; or a fault
pub data Step : Type 0 where
  Gives : (token : TokenValue) (rest : List ℕ) (state : LexState) → Step
  Ends : Step
  Stops : (fault : LexFault) → Step

-- What stands next is settled, whatever follows after the text: a token that ends before the text does, or a character that
-- may not stand where it is.
abbrev pub IsSettledStep : Step → Type 0
IsSettledStep (Gives token (c ∷ rest) state) = ⊤
IsSettledStep (Stops (IllegalCharacter char)) = ⊤
IsSettledStep (Stops (UnrecognizedChar char)) = ⊤
IsSettledStep step = ⊥

-- the characters before the first that passes the test, and those from it on
abbrev pub front_until : (ℕ → Bool) → List ℕ → List ℕ
front_until p [] = []
front_until p (c ∷ cs) = if p c then [] else c ∷ front_until p cs

abbrev pub from : (ℕ → Bool) → List ℕ → List ℕ
from p [] = []
from p (c ∷ cs) = if p c then c ∷ cs else from p cs

-- a line ends with a carriage return and a line feed, or a line feed alone
abbrev pub is_line_end : ℕ → Bool
is_line_end c = c == carriage_return || c == line_feed

abbrev pub line_end : List ℕ → Step
line_end [] = Stops EndOfText
line_end (c ∷ cs) =
    if c == line_feed then Gives LineEnd cs StartLine
    else if c == carriage_return then line_end cs
    else Stops (IllegalCharacter c)

-- A comment goes up to the end of its line, or of the text.
abbrev pub after_comment : List ℕ → Step
after_comment [] = Ends
after_comment (c ∷ cs) = line_end (c ∷ cs)

-- A word goes up to white space, a comment or the end of the text. A parenthesis cannot close in it.
abbrev pub ends_word : ℕ → Bool
ends_word c = is_whitespace c || is_control c || c == semicolon || c == close_paren

abbrev pub word_before : List ℕ → List ℕ → Step
word_before word [] = Gives (CharData word) [] RestOfLine
word_before word (c ∷ cs) =
    if is_whitespace c || c == semicolon then Gives (CharData word) (c ∷ cs) RestOfLine
    else if c == close_paren then Stops (IllegalCharacter c)
    else Stops (UnrecognizedChar c)

-- where the next character of a list is: between words, in a comment, or after the first characters of a word
pub data ListState : Type 0 where
  Between : ListState
  Comment : ListState
  Word : (word : List ℕ) → ListState

-- the words with the one that has ended, if there is one
abbrev pub and_word : List (List ℕ) → ListState → List (List ℕ)
and_word words Between = words
and_word words Comment = words
and_word words (Word word) = words ++ word ∷ []

-- the word with one more character
abbrev pub longer_word : ListState → ℕ → ListState
longer_word Between c = Word (c ∷ [])
longer_word Comment c = Comment
longer_word (Word word) c = Word (word ++ c ∷ [])

-- A list goes up to the `)` that closes it. In it line ends are white space, and so are comments up to a line's end.
abbrev pub list_after : List (List ℕ) → ListState → List ℕ → Step
list_after words state [] = Stops UnclosedList
list_after words Comment (c ∷ cs) =
    if is_line_end c then list_after words Between cs else list_after words Comment cs
list_after words state (c ∷ cs) =
    if is_whitespace c then list_after (and_word words state) Between cs
    else if c == close_paren then Gives (Grouped (and_word words state)) cs RestOfLine
    else if c == semicolon then list_after (and_word words state) Comment cs
    else if is_control c then Stops (UnrecognizedChar c)
    else list_after words (longer_word state c) cs

-- where the next character of a quoted text is: outside an escape, after its backslash, or after one or two of its digits
pub data QuoteState : Type 0 where
  Plain : QuoteState
  Escaped : QuoteState
  AfterOne : (a : ℕ) → QuoteState
  AfterTwo : (a b : ℕ) → QuoteState

-- numeric: of the general category Nd, Nl or No
abbrev pub is_numeric : ℕ → Bool
is_numeric c =
    general_category_eq (general_category c) DecimalNumber || general_category_eq (general_category c) LetterNumber
    || general_category_eq (general_category c) OtherNumber

-- A quoted text goes up to the next quote that is not escaped. A backslash and three decimal digits stand for one
-- character, and so do a backslash and any other character that is no control character and not numeric.
abbrev pub quoted_after : List ℕ → QuoteState → List ℕ → Step
quoted_after text Plain [] = Stops UnclosedQuote
quoted_after text Plain (c ∷ cs) =
    if c == quote then Gives (CharData text) cs RestOfLine
    else if c == backslash then quoted_after text Escaped cs
    else quoted_after (text ++ c ∷ []) Plain cs
quoted_after text state [] = Stops EndOfText
quoted_after text Escaped (c ∷ cs) =
    if is_control c then Stops (IllegalCharacter c)
    else if not (is_numeric c) then quoted_after (text ++ c ∷ []) Plain cs
    else if is_ascii_digit c then quoted_after text (AfterOne (c - 48)) cs
    else Stops (IllegalCharacter c)
quoted_after text (AfterOne a) (c ∷ cs) =
    if is_ascii_digit c then quoted_after text (AfterTwo a (c - 48)) cs else Stops (IllegalCharacter c)
quoted_after text (AfterTwo a b) (c ∷ cs) =
    if is_ascii_digit c then quoted_after (text ++ (65536 * a + 256 * b + (c - 48)) ∷ []) Plain cs
    else Stops (IllegalCharacter c)

-- the control entries: `$INCLUDE` and `$ORIGIN`, and `$TTL` of RFC 2308, section 4
abbrev pub control_entry : List ℕ → List ℕ → Step
control_entry word cs =
    if bytes_eq word (codes "INCLUDE") then Gives Include cs RestOfLine
    else if bytes_eq word (codes "ORIGIN") then Gives Origin cs RestOfLine
    else if bytes_eq word (codes "TTL") then Gives Ttl cs RestOfLine
    else Stops (UnrecognizedDollar word)

abbrev pub is_no_capital : ℕ → Bool
is_no_capital c = not (is_ascii_uppercase c)

-- what stands at a character that is no white space
abbrev pub line_entry : ℕ → List ℕ → Step
line_entry c cs =
    if c == at_sign then Gives AtSign cs RestOfLine
    else if c == open_paren then list_after [] Between cs
    else if c == close_paren then Stops (IllegalCharacter c)
    else if c == dollar then control_entry (front_until is_no_capital cs) (from is_no_capital cs)
    else if c == quote then quoted_after [] Plain cs
    else if c == semicolon then after_comment (from is_line_end cs)
    else if is_control c then Stops (UnrecognizedChar c)
    else word_before (front_until ends_word (c ∷ cs)) (from ends_word (c ∷ cs))

-- In the rest of a line, white space is skipped.
abbrev pub rest_of_line : List ℕ → Step
rest_of_line [] = Ends
rest_of_line (c ∷ cs) =
    if is_line_end c then line_end (c ∷ cs)
    else if is_whitespace c then rest_of_line cs
    else line_entry c cs

-- A line that begins with white space is for the last owner that was stated.
abbrev pub start_line : List ℕ → Step
start_line [] = Ends
start_line (c ∷ cs) =
    if is_line_end c then line_end (c ∷ cs)
    else if is_whitespace c then Gives Blank cs RestOfLine
    else line_entry c cs

-- a lexer: what is left of its text, and where it is
pub record LexerValue : Type 0 where
  pub rest : List ℕ
  pub state : LexState

abbrev pub next_from : LexState → List ℕ → Step
next_from StartLine rest = start_line rest
next_from RestOfLine rest = rest_of_line rest
next_from Failed rest = Stops HasFailed

-- what stands next in a lexer's text
abbrev pub next : LexerValue → Step
next lexer = next_from lexer.state lexer.rest

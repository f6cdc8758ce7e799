-- Tokens of a text, of which a caller keeps an offset, and why there is none (RFC 1035, section 5.1).
use Rattle.std.specs.Prelude.{◌≡◌, ◌≤◌, ◌⊎◌, ℕ, ◌+◌, Bool, true, false, IsTrue, List, [], ◌∷◌, ◌++◌, length, drop, encode_utf8_all, Result, Ok, IsUtf8}
use Rattle.std.specs.List.{flat_map}
use Rattle.std.specs.Str.{chars}
use Rattle.dnw_zone_lexer.specs.Tokens.{TokenValue, Blank, Grouped, CharData, AtSign, Include, Origin, Ttl, LineEnd, Gives, Ends, IsSettledStep, LexState, LexerValue, next, next_from}
use Rattle.dnw_zone_lexer.specs.Lexing.{FailsToken, line_state}
use Rattle.dnw_zone_lexer.specs.declared.errors.LexerError.{LexerError}
use Rattle.dnw_zone_lexer.specs.declared.errors.LexerError.TheVariants.{EOF, IllegalCharacter as IllegalChar, UnclosedList as ListError, UnclosedQuotedString, UnrecognizedChar, UnrecognizedDollar, Memory}
use Rattle.dnw_c_base.specs.declared.failure.Failure.{Failure}
use Rattle.dnw_c_base.specs.declared.failure.Failure.TheVariants.{NoMemory, NotUtf8, Other, TextCut, IllegalCharacter, ControlCharacter, UnclosedList, UnclosedQuote, UnknownEntry}
use Rattle.dnw_c_base.specs.Results.{Puts, Refuses}
use Rattle.dnw_c_zone.specs.declared.tokens.LexerState.{LexerState}
use Rattle.dnw_c_zone.specs.declared.tokens.ReadToken.{ReadToken}

-- a lexer at the bytes that are left of a text
abbrev pub lexer_at : List ℕ → LexerState → LexerValue
lexer_at text at = record { rest = chars (drop at.offset text); state = line_state at.at_line_start }

-- The number of a token's kind. The end of the text has 0.
abbrev pub kind_number : TokenValue → ℕ
kind_number Blank = 1
kind_number (Grouped words) = 2
kind_number (CharData text) = 3
kind_number AtSign = 4
kind_number Include = 5
kind_number Origin = 6
kind_number Ttl = 7
kind_number LineEnd = 8

-- a word and a zero byte, which no word has
abbrev pub word_bytes : List ℕ → List ℕ
word_bytes word = encode_utf8_all word ++ 0 ∷ []

abbrev pub list_bytes : List (List ℕ) → List ℕ
list_bytes words = flat_map word_bytes words

-- the texts of a token, in UTF-8
abbrev pub token_bytes : TokenValue → List ℕ
token_bytes (Grouped words) = list_bytes words
token_bytes (CharData text) = encode_utf8_all text
token_bytes token = []

-- how many texts it has
abbrev pub word_count : TokenValue → ℕ
word_count (Grouped words) = length words
word_count (CharData text) = 1
word_count token = 0

-- the token is a list of words, which are joined
abbrev pub IsList : TokenValue → Type 0
IsList (Grouped words) = 1 ≤ length words
IsList token = ⊥

-- what C learns of a token beside its texts
abbrev pub read_token : TokenValue → ReadToken
read_token value = record { kind = kind_number value; len = length (token_bytes value); count = word_count value }

-- The token that stands next takes these first octets of what is left, which are UTF-8.
abbrev pub LexesToken : List ℕ → LexState → TokenValue → ℕ → Bool → Type 0
LexesToken left state value len at_line_start =
    (own rest : List ℕ) × (left ≡ own ++ rest) × IsUtf8 own × (len ≡ length own)
    × (next_from state (chars left) ≡ Gives value (chars rest) (line_state at_line_start))

-- the token that stands next, and after it the lexer
abbrev pub Advances : List ℕ → LexerState → TokenValue → LexerState → Type 0
Advances text at value after =
    (len : ℕ) × LexesToken (drop at.offset text) (line_state at.at_line_start) value len after.at_line_start × (after.offset ≡ at.offset + len)

-- No token stands next, and the lexer is after the text.
abbrev pub IsAtTextEnd : List ℕ → LexerState → LexerState → Type 0
IsAtTextEnd text at after =
    IsUtf8 (drop at.offset text) × (next (lexer_at text at) ≡ Ends)
    × (after ≡ record { offset = length text; at_line_start = false })

-- The texts of a token are put, and this is the value, unless memory runs out, which only a list needs.
abbrev pub PutsToken : {T : Type 0} → TokenValue → T → List ℕ → List ℕ → Result T Failure → Type 0
PutsToken value found old new result =
    Puts (token_bytes value) found old new result ⊎ Refuses (λ failure. IsList value × (failure ≡ NoMemory)) old new result

-- why there is no token
abbrev pub of_lexer : LexerError → Failure
of_lexer EOF = TextCut
of_lexer (IllegalChar char) = IllegalCharacter
of_lexer (UnrecognizedChar char) = ControlCharacter
of_lexer ListError = UnclosedList
of_lexer UnclosedQuotedString = UnclosedQuote
of_lexer (UnrecognizedDollar word) = UnknownEntry
of_lexer Memory = NoMemory
of_lexer error = Other

-- The first octets of what is left decide what stands next: they are UTF-8, and are all, or what stands next in them is the
-- same whatever follows.
pub record Decides (left : List ℕ) (state : LexState) (front : List ℕ) : Type 0 where
  pub rest : List ℕ
  pub begins : left ≡ front ++ rest
  pub text : IsUtf8 front
  pub settled : (rest ≡ []) ⊎ IsSettledStep (next_from state (chars front))

-- An error is the same whatever follows: a character that may not stand where it is, and memory that ran out.
abbrev pub is_decided : LexerError → Bool
is_decided (IllegalChar char) = true
is_decided (UnrecognizedChar char) = true
is_decided Memory = true
is_decided error = false

-- An error stands next in the first octets of what is left, which are UTF-8: they are all, or it is the same whatever
-- follows.
abbrev pub HasError : List ℕ → LexState → Failure → Type 0
HasError left state failure =
    (front rest : List ℕ) × (error : LexerError) × (left ≡ front ++ rest) × IsUtf8 front
    × FailsToken (record { rest = chars front; state = state }) error × ((rest ≡ []) ⊎ IsTrue (is_decided error)) × (failure ≡ of_lexer error)

-- No token is found in what is left: no octets that are UTF-8 decide what stands next, or there is an error.
abbrev pub HasNoToken : List ℕ → LexState → Failure → Type 0
HasNoToken left state failure = (((front : List ℕ) → ¬ (Decides left state front)) × (failure ≡ NotUtf8)) ⊎ HasError left state failure

abbrev pub FailsToLex : List ℕ → LexerState → Failure → Type 0
FailsToLex text at failure = HasNoToken (drop at.offset text) (line_state at.at_line_start) failure

-- what C learns of the end of a text
abbrev pub end_token : ReadToken
end_token = record { kind = 0; len = 0; count = 0 }

-- The token that stands next is put, whose texts are no longer than what is left; or the end is reported; or none is found.
abbrev pub TakesToken : List ℕ → LexerState → List ℕ → List ℕ → Result (ReadToken × LexerState) Failure → Type 0
TakesToken text at old new result =
    ((value : TokenValue) × (after : LexerState) × Advances text at value after × (length (token_bytes value) ≤ length (drop at.offset text))
    × PutsToken value (read_token value, after) old new result)
    ⊎ ((after : LexerState) × IsAtTextEnd text at after × (result ≡ Ok (end_token, after)) × (new ≡ old))
    ⊎ Refuses (FailsToLex text at) old new result

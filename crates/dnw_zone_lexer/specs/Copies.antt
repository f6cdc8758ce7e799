-- What a copy is: the same; each allocated text in it has the same bytes.
use Rattle.std.specs.Prelude.{◌≡◌, ⊤}
use Rattle.dnw_base.specs.declared.error.ProtoError.{ProtoError}
use Rattle.dnw_base.specs.Copies.{CopiesText, IsErrorCopyOf, OwnsText}
use Rattle.dnw_zone_lexer.specs.Lexing.{token_value}
use Rattle.dnw_zone_lexer.specs.declared.zone_lex.Token.{Token}
use Rattle.dnw_zone_lexer.specs.declared.zone_lex.Token.TheVariants.{CharData, List as Words}
use Rattle.dnw_zone_lexer.specs.declared.errors.LexerError.{LexerError}
use Rattle.dnw_zone_lexer.specs.declared.errors.LexerError.TheVariants.{UnrecognizedDollar}
use Rattle.dnw_zone_lexer.specs.declared.errors.ParseError.{ParseError}
use Rattle.dnw_zone_lexer.specs.declared.errors.ParseError.TheVariants.{MissingToken, Msg, ParseTime, UnexpectedToken, Lexer, Proto}

-- the token has allocated texts
abbrev pub OwnsTokenText : Token → Type 0
OwnsTokenText (CharData text) = ⊤
OwnsTokenText (Words words) = ⊤
OwnsTokenText token = ⊥

-- a copy of a token is a token of the same characters
abbrev pub IsTokenCopyOf : Token → Token → Type 0
IsTokenCopyOf token copy = token_value copy ≡ token_value token

abbrev pub IsLexerCopyOf : LexerError → LexerError → Type 0
IsLexerCopyOf (UnrecognizedDollar text) copy = CopiesText UnrecognizedDollar text copy
IsLexerCopyOf error copy = copy ≡ error

abbrev pub OwnsLexerText : LexerError → Type 0
OwnsLexerText (UnrecognizedDollar text) = ⊤
OwnsLexerText error = ⊥

abbrev pub IsParseCopyOf : ParseError → ParseError → Type 0
IsParseCopyOf (MissingToken text) copy = CopiesText MissingToken text copy
IsParseCopyOf (Msg text) copy = CopiesText Msg text copy
IsParseCopyOf (ParseTime text) copy = CopiesText ParseTime text copy
IsParseCopyOf (UnexpectedToken token) copy = (other : Token) × (copy ≡ UnexpectedToken other) × IsTokenCopyOf token other
IsParseCopyOf (Lexer cause) copy = (other : LexerError) × (copy ≡ Lexer other) × IsLexerCopyOf cause other
IsParseCopyOf (Proto cause) copy = (other : ProtoError) × (copy ≡ Proto other) × IsErrorCopyOf cause other
IsParseCopyOf error copy = copy ≡ error

-- the error has an allocated text, and so a copy allocates
abbrev pub OwnsParseText : ParseError → Type 0
OwnsParseText (MissingToken text) = ⊤
OwnsParseText (Msg text) = ⊤
OwnsParseText (ParseTime text) = ⊤
OwnsParseText (UnexpectedToken token) = OwnsTokenText token
OwnsParseText (Lexer cause) = OwnsLexerText cause
OwnsParseText (Proto cause) = OwnsText cause
OwnsParseText error = ⊥

-- What the parts find in which a token is looked for.
use Rattle.std.specs.Prelude.{◌≡◌, ℕ, Bool, false, nat_lt, Option, Some, None, Result, Ok, Err, List, IsUtf8}
use Rattle.std.specs.Str.{chars}
use Rattle.dnw_zone_lexer.specs.Lexing.{line_state, token_value}
use Rattle.dnw_zone_lexer.specs.Tokens.{Ends, next_from}
use Rattle.dnw_zone_lexer.specs.declared.zone_lex.Token.{Token}
use Rattle.dnw_zone_lexer.specs.declared.errors.LexerError.{LexerError}
use Rattle.dnw_c_zone.specs.TokenCalls.{LexesToken, is_decided}
use Rattle.dnw_c_zone.specs.declared.tokens.Taken.{Taken}

-- a token that stands next in what is left of a text, or its end
abbrev pub FindsIn : List ℕ → Bool → Option Taken → Type 0
FindsIn left at_line_start (Some taken) = LexesToken left (line_state at_line_start) (token_value taken.token) taken.len taken.at_line_start
FindsIn left at_line_start None = IsUtf8 left × (next_from (line_state at_line_start) (chars left) ≡ Ends)

-- What a lexer finds in a part of a text, of which so many bytes are left, is the same whatever follows.
abbrev pub settles : Result (Option Token) LexerError → ℕ → Bool
settles (Ok (Some token)) left = nat_lt 0 left
settles (Ok None) left = false
settles (Err error) left = is_decided error

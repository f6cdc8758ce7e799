use Rattle.std.proofs.Common.{◌≡◌, List, ℕ, Ok, Some, ap, subst}
use Rattle.std.specs.Str.{chars}
use Rattle.std.proofs.lemmas.Str.{chars-nil}
use Rattle.dnw_zone_lexer.specs.Tokens.{Gives, Ends, RestOfLine, LexerValue, next}
use Rattle.dnw_zone_lexer.specs.Lexing.{token_value}
use Rattle.dnw_zone_lexer.specs.Inside.Finds.{lex_state_of}
use Rattle.dnw_zone_lexer.proofs.Settled.{takes_one}
use Rattle.dnw_zone_lexer.proofs.zone_lex.Lexer.next_token.Goals as goal

pub returns-in-Ok-Some-clause-takes : goal.returns-in-Ok-Some-clause-takes
returns-in-Ok-Some-clause-takes c = λ _.
    let found = c.in-Ok-Some.found in
    let given = subst (λ (l : LexerValue). next l ≡ Gives (token_value found.token) (chars found.rest.now) (lex_state_of found.state)) c.self.view_is (rw c.in-Ok-Some.field-0-is at c.in-Ok-Some.ensures) in
    takes_one c.args.self.now (record { rest = chars found.rest.now; state = lex_state_of found.state }) (Ok (Some found.token)) given tt

pub returns-in-Ok-None-clause-lexes : goal.returns-in-Ok-None-clause-lexes
returns-in-Ok-None-clause-lexes c = (
  subst (λ (l : LexerValue). next l ≡ Ends) c.self.view_is (rw c.in-Ok-None.field-0-is at c.in-Ok-None.ensures),
  ap (λ (cs : List ℕ). record { rest = cs; state = RestOfLine }) chars-nil,
)

use Rattle.std.proofs.Common.{◌≡◌, List, ℕ, Result, Option, Ok, sym, ap, subst, ◌∙◌}
use Rattle.dnw_zone_lexer.specs.Lexing.{Lexes, line_state, token_value}
use Rattle.dnw_zone_lexer.specs.Tokens.{Gives, LexerValue, next}
use Rattle.dnw_zone_lexer.specs.declared.zone_lex.Token.{Token}
use Rattle.dnw_zone_lexer.specs.declared.errors.LexerError.{LexerError}
use Rattle.dnw_c_zone.proofs.TokenParts.{decided, taken, undecided_part, within}
use Rattle.dnw_c_zone.proofs.tokens.take_within.Goals as goal

pub returns-then-not-is_decided-clause-none : goal.returns-then-not-is_decided-clause-none
returns-then-not-is_decided-clause-none c = λ front few d.
    let (more, is) = c.valid_part-part.ensures.begins in
    let le = c.valid_part-part.ensures.longest front d.rest d.begins few d.text in
    undecided_part c.args.left.now c.valid_part-part.result.now more c.rest-rest.result.now (line_state c.args.at_line_start) c.resume-lexer.result c.next_token-found.new.self
    c.next_token-found.result is (sym c.is_decided.ensures ∙ c.if-not-is_decided.true) c.resume-lexer.ensures c.next_token-found.ensures.lexes c.rest-rest.ensures front le d

pub overflow_sub-result : goal.overflow_sub-result
overflow_sub-result c =
    let lexed = subst (λ (f : Result (Option Token) LexerError). Lexes c.resume-lexer.result f c.next_token-found.new.self) (c.in-Ok-Some.is ∙ ap Ok c.in-Ok-Some.field-0-is) c.next_token-found.ensures.lexes in
    let here = subst (λ (l : LexerValue). next l ≡ Gives (token_value c.in-Ok-Some.token) c.next_token-found.new.self.rest c.next_token-found.new.self.state) c.resume-lexer.ensures lexed in
    let gives = here ∙ ap (λ (t : List ℕ). Gives (token_value c.in-Ok-Some.token) t c.next_token-found.new.self.state) (sym c.rest-rest.ensures) in
    within c.valid_part-part.result.now c.rest-rest.result.now (line_state c.args.at_line_start) _ _ c.valid_part-part.ensures.text c.rest-rest.utf8 gives

pub returns-in-Ok-Some-clause-ok : goal.returns-in-Ok-Some-clause-ok
returns-in-Ok-Some-clause-ok c =
    let (more, is) = c.valid_part-part.ensures.begins in
    let lexed = subst (λ (f : Result (Option Token) LexerError). Lexes c.resume-lexer.result f c.next_token-found.new.self) (c.in-Ok-Some.is ∙ ap Ok c.in-Ok-Some.field-0-is) c.next_token-found.ensures.lexes in
    let here = subst (λ (l : LexerValue). next l ≡ Gives (token_value c.in-Ok-Some.token) c.next_token-found.new.self.rest c.next_token-found.new.self.state) c.resume-lexer.ensures lexed in
    let gives = here ∙ ap (λ (t : List ℕ). Gives (token_value c.in-Ok-Some.token) t c.next_token-found.new.self.state) (sym c.rest-rest.ensures) in
    let ends = decided c.args.left.now c.valid_part-part.result.now more c.rest-rest.result.now is c.rest-rest.utf8 (rw (c.in-Ok-Some.is ∙ ap Ok c.in-Ok-Some.field-0-is) at (sym c.is_decided.ensures ∙ c.if-not-is_decided.false)) in
    taken c.args.left.now c.valid_part-part.result.now more c.rest-rest.result.now (line_state c.args.at_line_start) c.next_token-found.new.self.state (token_value c.in-Ok-Some.token)
    c.is_at_line_start.result is c.valid_part-part.ensures.text c.rest-rest.utf8 gives ends c.is_at_line_start.ensures

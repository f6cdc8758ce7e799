-- Each turn of the loop takes the characters up to a quote or a backslash, and then an escape.
use Rattle.std.proofs.Common.{ℕ, List, [], ◌∷◌, ◌++◌, true, sym, ap, subst, ◌∙◌, arith}
use Rattle.std.proofs.lemmas.List.{length-append}
use Rattle.std.proofs.lemmas.Result.{err_from_is_err_and}
use Rattle.std.proofs.lemmas.Str.{chars-nil, IsUtf8-string_bytes}
use Rattle.std.specs.Str.{chars}
use Rattle.dnw_zone_lexer.specs.Tokens.{quoted_after, Plain}
use Rattle.dnw_zone_lexer.specs.Lexing.{characters, MayRunOut}
use Rattle.dnw_zone_lexer.proofs.Steps.{quoted_after_may, quoted_after_escape, characters_push}
use Rattle.dnw_zone_lexer.proofs.zone_lex.quoted.Goals as goal

pub runs-init : goal.runs-init
runs-init c = record {
  step = ap (λ (all : List ℕ). quoted_after all Plain (chars c.args.text.now)) (ap chars c.new-collected.ensures.bytes ∙ chars-nil);
  utf8 = c.utf8.text;
}

pub returns-in_err-c-in-Some : goal.returns-in_err-c-in-Some
returns-in_err-c-in-Some c =
    let escape = quoted_after_escape (characters c.take_run.new.collected) _ _ _ c.in-Some.ensures.0 c.in-Some.field-0-0-test.1 c.in_ok-rest.ensures.stops in
    let p = err_from_is_err_and c.from_residual-in_err-c-in-Some.result c.from_residual-in_err-c-in-Some.ensures.1 in
    rw (p.1, p.2) (rw (sym c.runs.invariant.step ∙ sym c.in_ok-rest.ensures.goes_on ∙ escape) (c.in_err-c-in-Some.ensures.escapes _))

pub runs-preserved : goal.runs-preserved
runs-preserved c =
    let escape = quoted_after_escape (characters c.take_run.new.collected) _ _ _ c.in-Some.ensures.0 c.in-Some.field-0-0-test.1 c.in_ok-rest.ensures.stops in
    let all = ap chars c.in_ok-push-in-Some.ensures.bytes ∙ characters_push _ _ (IsUtf8-string_bytes c.take_run.new.collected) c.in_ok-c-in-Some.ensures.scalar in
    record {
      step = rw all (sym (escape ∙ c.in_ok-c-in-Some.ensures.escapes _) ∙ c.in_ok-rest.ensures.goes_on ∙ c.runs.invariant.step);
      utf8 = c.in_ok-c-in-Some.ensures.rest.1;
    }

pub returns-in_err-push-in-Some : goal.returns-in_err-push-in-Some
returns-in_err-push-in-Some c =
    let escape = quoted_after_escape (characters c.take_run.new.collected) _ _ _ c.in-Some.ensures.0 c.in-Some.field-0-0-test.1 c.in_ok-rest.ensures.stops in
    let step = sym (escape ∙ c.in_ok-c-in-Some.ensures.escapes _) ∙ c.in_ok-rest.ensures.goes_on ∙ c.runs.invariant.step in
    let (error, is, cause) = err_from_is_err_and c.from_residual-in_err-push-in-Some.result c.from_residual-in_err-push-in-Some.ensures.1 in
    let text = characters c.take_run.new.collected in
    rw (is, cause) (subst (MayRunOut true) step (quoted_after_may (chars c.in_ok-c-in-Some.rest.now) (text ++ c.in_ok-c-in-Some.c ∷ []) Plain (omega (arith, length-append text (c.in_ok-c-in-Some.c ∷ [])))))

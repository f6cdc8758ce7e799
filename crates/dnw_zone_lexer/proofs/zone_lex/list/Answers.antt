-- Each turn of the loop takes white space, a comment or a word.
use Rattle.std.proofs.Common.{◌≡◌, ℕ, List, [], ◌∷◌, ◌++◌, map, sym, ap, ◌∙◌, arith}
use Rattle.std.proofs.Math.Nat.{sub-zero}
use Rattle.std.proofs.lemmas.List.{map-append}
use Rattle.std.proofs.lemmas.Result.{err_from_is_err_and}
use Rattle.std.specs.Str.{chars}
use Rattle.dnw_zone_lexer.specs.Tokens.{front_until, from, ends_word}
use Rattle.dnw_zone_lexer.specs.Lexing.{characters}
use Rattle.dnw_zone_lexer.proofs.Cuts.{cut_some}
use Rattle.dnw_zone_lexer.proofs.Steps.{list_after_begin, no_end, word_may}
use Rattle.dnw_zone_lexer.proofs.zone_lex.list.Goals as goal

pub loop-c-smaller : goal.loop-c-smaller
loop-c-smaller c =
    let inside = no_end c.in-Some.c (sym c.is_whitespace.ensures ∙ c.if-is_whitespace.false) c.if-c-eq41.false c.if-c-eq59.false (sym c.is_control.ensures ∙ c.if-is_control.false) in
    omega (arith, cut_some _ _ _ _ _ c.word_len-len.ensures c.in-Some.ensures.0 inside, c.range_from-left-else-is_control.ensures.len)

pub loop-c-preserved : goal.loop-c-preserved
loop-c-preserved c =
    let inside = no_end c.in-Some.c (sym c.is_whitespace.ensures ∙ c.if-is_whitespace.false) c.if-c-eq41.false c.if-c-eq59.false (sym c.is_control.ensures ∙ c.if-is_control.false) in
    let left = chars c.loop-c.left.now in
    let taken = rw sub-zero at c.range.ensures.value in
    let word : characters c.in_ok-copied.field-0 ≡ front_until ends_word left = ap chars (c.in_ok-copied.ensures.ok ∙ taken) ∙ c.word_len-len.ensures.front in
    let items = map characters c.loop-c.words.items in
    let words : map characters c.push.new.self.items ≡ items ++ front_until ends_word left ∷ [] =
    ap (map characters) c.in_ok-push.ensures.items ∙ map-append characters c.loop-c.words.items (c.in_ok-copied.field-0 ∷ []) ∙ ap (λ (w : List ℕ). items ++ w ∷ []) word
    in
    let back : chars c.range_from-left-else-is_control.result.now ≡ from ends_word left = ap chars c.range_from-left-else-is_control.ensures.value ∙ c.word_len-len.ensures.back in
    record {
      step = rw (words, back) (list_after_begin items left _ _ c.in-Some.ensures.0 inside ∙ c.loop-c.invariant.step);
      utf8 = c.range_from-left-else-is_control.utf8;
    }

pub returns-in_err-copied : goal.returns-in_err-copied
returns-in_err-copied c =
    let inside = no_end c.in-Some.c (sym c.is_whitespace.ensures ∙ c.if-is_whitespace.false) c.if-c-eq41.false c.if-c-eq59.false (sym c.is_control.ensures ∙ c.if-is_control.false) in
    let (error, is, cause) = err_from_is_err_and c.from_residual.result c.from_residual.ensures.1 in
    rw (is, cause) (word_may (map characters c.loop-c.words.items) (chars c.args.text.now) (chars c.loop-c.left.now) _ _ c.in-Some.ensures.0 inside c.loop-c.invariant.step)

pub returns-in_err-push : goal.returns-in_err-push
returns-in_err-push c =
    let inside = no_end c.in-Some.c (sym c.is_whitespace.ensures ∙ c.if-is_whitespace.false) c.if-c-eq41.false c.if-c-eq59.false (sym c.is_control.ensures ∙ c.if-is_control.false) in
    let (error, is, cause) = err_from_is_err_and c.from_residual-in_err-push.result c.from_residual-in_err-push.ensures.1 in
    rw (is, cause) (word_may (map characters c.loop-c.words.items) (chars c.args.text.now) (chars c.loop-c.left.now) _ _ c.in-Some.ensures.0 inside c.loop-c.invariant.step)

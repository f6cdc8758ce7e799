use Rattle.std.proofs.Common.{ℕ, List, ◌++◌, ◌≤◌, length, take, refl, ap, ◌∙◌, arith}
use Rattle.std.proofs.Math.Nat.{sub-zero}
use Rattle.std.proofs.lemmas.List.{length-append}
use Rattle.std.proofs.lemmas.Result.{err_from_is_err_and}
use Rattle.std.proofs.lemmas.Str.{IsUtf8-string_bytes}
use Rattle.std.specs.String.{string_bytes}
use Rattle.dnw_zone_lexer.proofs.Steps.{quoted_after_taken, run_may}
use Rattle.dnw_zone_lexer.proofs.zone_lex.take_run.Goals as goal

pub returns-clause-goes_on : goal.returns-clause-goes_on
returns-clause-goes_on c =
    let longer = c.in_ok-push_str.ensures.bytes ∙ ap (λ (all : List ℕ). string_bytes c.args.collected.now ++ all) (rw sub-zero at c.range.ensures.value) in
    rw c.range_from.ensures.value (quoted_after_taken _ _ _ _ c.quoted_len-len.ensures (IsUtf8-string_bytes c.args.collected.now) longer)

pub returns-in_err-push_str-clause-err : goal.returns-in_err-push_str-clause-err
returns-in_err-push_str-clause-err c =
    let (error, is, cause) = err_from_is_err_and c.from_residual.result c.from_residual.ensures.1 in
    let run = take c.quoted_len-len.result c.args.left.now in
    let sum = length-append (string_bytes c.args.collected.now) run in
    let own = ap length (rw sub-zero at c.range.ensures.value) in
    let some : 1 ≤ length (string_bytes c.args.collected.now ++ run) = omega (arith, sum, own, c.args.collected.now.bytes.ok.0, c.in_err-push_str.ensures.full) in
    rw (is, cause) (refl, run_may _ _ _ c.quoted_len-len.ensures (IsUtf8-string_bytes c.args.collected.now) c.utf8.left some)

use Rattle.std.proofs.Common.{drop, inl}
use Rattle.std.proofs.lemmas.Result.{err_from_is_err_and}
use Rattle.dnw_zone_lexer.specs.Lexing.{token_value}
use Rattle.dnw_c_zone.proofs.TokenSizes.{fits_left}
use Rattle.dnw_c_zone.proofs.TokenTexts.{put_before}
use Rattle.dnw_c_zone.proofs.tokens.take.Goals as goal

pub returns-in_ok-read-in-Some : goal.returns-in_ok-read-in-Some
returns-in_ok-read-in-Some c =
    let (len, takes, offset) = rw c.in-Some.is at c.in_ok-found.ensures.ok in
    let small = fits_left (drop c.args.at.offset c.args.text.now) _ _ len _ takes in
    inl (token_value c.in-Some.token, c.in_ok-found.after, (len, takes, offset), small, put_before _ _ c.in_ok-found.after _ _ c.in_ok-read-in-Some.ensures)

pub returns-in_err-read-in-Some : goal.returns-in_err-read-in-Some
returns-in_err-read-in-Some c =
    let (len, takes, offset) = rw c.in-Some.is at c.in_ok-found.ensures.ok in
    let small = fits_left (drop c.args.at.offset c.args.text.now) _ _ len _ takes in
    let exit = c.from_residual-in_err-read-in-Some in
    let p = err_from_is_err_and exit.result exit.ensures.1 in
    rw (p.1, p.2) (inl (token_value c.in-Some.token, c.in_ok-found.after, (len, takes, offset), small, c.in_err-read-in-Some.ensures))

-- The length of data is put in the place of two octets, once the data are there.
use Rattle.std.proofs.Common.{◌≡◌, ◌-◌, ℕ, List, [], ◌∷◌, ◌++◌, length, refl, sym, ap, ◌∙◌, append_assoc, arith, length-append}
use Rattle.std.proofs.lemmas.Result.{err_from_is_err_and}
use Rattle.std.specs.Int.{w16, to_be_bytes}
use Rattle.dnw_signed.proofs.covering.append_counted.Goals as goal

size_is : (before extended items more : List ℕ) (at len : ℕ) → at ≡ length before → extended ≡ before ++ 0 ∷ 0 ∷ [] → items ≡ extended ++ more
    → len ≡ length items → len - at - 2 ≡ length more
size_is before extended items more at len at_is extends grown len_is =
    omega (arith, at_is, ap length extends, length-append before (0 ∷ 0 ∷ []), ap length grown, length-append extended more, len_is)

pub returns-in_err-size-clause-err : goal.returns-in_err-size-clause-err
returns-in_err-size-clause-err c =
    let exit = c.from_residual-in_err-size in
    let (error, is, cause) = err_from_is_err_and exit.result exit.ensures.1 in
    let (long, why) = c.in_err-size.ensures.err in
    let (more, takes, canonical, grown) = c.in_ok-put_limited.ensures.ok in
    let size = size_is c.args.out.now.items _ _ more c.len-at.result c.len.result (c.len-at.ensures ∙ c.args.out.now.ok.0)
    c.in_ok-extend_from_slice.ensures.items grown (c.len.ensures ∙ c.put_limited.new.out.ok.0) in
    rw (is, cause, why) (refl, (c.put_limited.new.left, takes, more, canonical, omega (arith, long, size)))

pub returns-clause-ok : goal.returns-clause-ok
returns-clause-ok c =
    let out = c.args.out.now.items in
    let (more, takes, canonical, grown) = c.in_ok-put_limited.ensures.ok in
    let (same, short) = c.in_ok-size.ensures.ok in
    let at = c.len-at.ensures ∙ c.args.out.now.ok.0 in
    let extends = c.in_ok-extend_from_slice.ensures.items in
    let size = same ∙ size_is out _ _ more c.len-at.result c.len.result at extends grown (c.len.ensures ∙ c.put_limited.new.out.ok.0) in
    let whole = grown ∙ ap (λ (x : List ℕ). x ++ more) extends ∙ append_assoc out (0 ∷ 0 ∷ []) more in (
      more,
      (c.put_limited.new.left, takes, canonical, omega (arith, short, size)),
      c.put_length.ensures out more (sym at) whole ∙ ap (λ n. out ++ (to_be_bytes w16 n ++ more)) size,
    )

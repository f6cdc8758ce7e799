use Rattle.std.proofs.Common.{◌+◌, ◌-◌, ◌*◌, Some, drop, get_or, ap, sym, subst, ◌∙◌, arith}
use Rattle.std.proofs.lemmas.List.{drop_more}
use Rattle.dnw_zone_lexer.specs.Times.{IsNoTtl}
use Rattle.dnw_zone_lexer.specs.Inside.Finds.{seconds_after}
use Rattle.dnw_zone_lexer.proofs.Sums.{too_great}
use Rattle.dnw_zone_lexer.proofs.ttl.take_number.Goals as goal

pub returns-then-number-gt-MAX_TTL-clause-none : goal.returns-then-number-gt-MAX_TTL-clause-none
returns-then-number-gt-MAX_TTL-clause-none c = λ total.
    let more = ap (seconds_after total (Some c.loop-end.number)) (drop_more c.args.text.now c.loop-end.end 0 c.loop-end-test.true) in
    let digit = sym c.is_ascii_digit-in-loop-end.ensures.value ∙ c.if-not-is_ascii_digit-2.false in
    let number = 10 * c.loop-end.number + (get_or c.args.text.now c.loop-end.end 0 - 48) in
    let great = too_great total number (drop (c.loop-end.end + 1) c.args.text.now) (omega (arith, c.if-number-gt-MAX_TTL.true)) in
    subst IsNoTtl (sym (c.loop-end.invariant.value total ∙ more)) (rw digit great)

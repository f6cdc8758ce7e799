use Rattle.std.proofs.Common.{◌≡◌, ◌+◌, false, [], length, sym, ap, ◌∙◌, arith}
use Rattle.std.proofs.lemmas.List.{nil_from_length}
use Rattle.dnw_zone_data.specs.Words.{plain_len}
use Rattle.dnw_zone_data.proofs.WordParts.{ends, ends_escaping, goes_on}
use Rattle.dnw_zone_data.proofs.words.plain_len.Goals as goal

pub loop-first-preserved-then-is_word_part : goal.loop-first-preserved-then-is_word_part
loop-first-preserved-then-is_word_part c =
    let e = c.in-Some.ensures.cases.0 in
    let size = ap length e in
    let step : plain_len false c.loop-first.left.now ≡ 1 + plain_len false c.in-Some.rest.now =
    ap (plain_len false) e ∙ goes_on c.in-Some.first.now c.in-Some.rest.now (sym c.is_word_part.ensures ∙ c.if-is_word_part.true) in
    (omega (arith, size, c.loop-first.invariant.0), omega (arith, size, step, c.loop-first.invariant.0, c.loop-first.invariant.1))

pub returns-in_default-split_first-clause-is : goal.returns-in_default-split_first-clause-is
returns-in_default-split_first-clause-is c =
    let e = c.in-Some.ensures.cases.0 in
    let size = ap length e in
    let none : c.in-Some.rest.now ≡ [] = nil_from_length c.in-Some.rest.now c.in_default-split_first.ensures.cases in
    let step : plain_len false c.loop-first.left.now ≡ 1 = ap (plain_len false) e ∙ rw none (ends_escaping c.in-Some.first.now c.if-first-eq92.true) in
    omega (arith, size, ap length none, step, c.loop-first.invariant.0, c.loop-first.invariant.1)

pub returns-else-first-eq92-clause-is : goal.returns-else-first-eq92-clause-is
returns-else-first-eq92-clause-is c =
    let e = c.in-Some.ensures.cases.0 in
    let step : plain_len false c.loop-first.left.now ≡ 0 =
    ap (plain_len false) e ∙ ends c.in-Some.first.now c.in-Some.rest.now (sym c.is_word_part.ensures ∙ c.if-is_word_part.false) c.if-first-eq92.false in
    omega (arith, step, c.loop-first.invariant.1)

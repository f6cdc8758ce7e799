use Rattle.std.proofs.Common.{List, ℕ, [], ◌∷◌, ◌++◌, refl, sym, ap, ◌∙◌, subst, arith}
use Rattle.dnw_data.specs.Values.{octets}
use Rattle.dnw_zone_data.specs.Bitmaps.{with_number, IsBitWord}
use Rattle.dnw_zone_data.specs.Inside.BitWords.{LeadToBits}
use Rattle.dnw_zone_data.specs.Words.{after_spaces, word}
use Rattle.dnw_zone_data.proofs.BitmapSteps.{bit_some, bits_more, bits_end, bits_stop, with_last}
use Rattle.dnw_zone_data.proofs.Empty.{is_empty, not_empty}
use Rattle.dnw_zone_data.proofs.bitmaps.parse_bits.Goals as goal

pub numbers-init : goal.numbers-init
numbers-init c = ([], c.after_spaces-left.ensures.rest, c.new-own.ensures.items)

pub returns-in_default : goal.returns-in_default
returns-in_default c = λ value are.
    let left : List ℕ = c.numbers.left.now in
    let none : (n : ℕ) → ¬ (IsBitWord c.args.shown (word left) n) =
    λ n is. c.in_default.ensures n (subst (λ (w : List ℕ). IsBitWord c.args.shown w n) (sym c.split_word.ensures.word) is) in
    bits_stop c.args.shown c.args.text.now c.numbers.invariant.0 are.1.0 left c.numbers.invariant.1 (not_empty left _ c.is_empty.ensures c.numbers-test.true) none are.1.1

pub numbers-preserved : goal.numbers-preserved
numbers-preserved c =
    let left : List ℕ = c.numbers.left.now in
    let done = c.numbers.invariant.0 in
    let n : ℕ = c.in-Some.number in
    let is : IsBitWord c.args.shown (word left) n = subst (λ (w : List ℕ). IsBitWord c.args.shown w n) c.split_word.ensures.word c.in-Some.ensures in
    let lead = bits_more c.args.shown c.args.text.now done left n c.numbers.invariant.1 (not_empty left _ c.is_empty.ensures c.numbers-test.true) is in
    let rest = c.after_spaces-left-in-numbers.ensures.rest ∙ ap after_spaces c.split_word.ensures.rest in (
      done ++ n ∷ [],
      subst (LeadToBits c.args.shown c.args.text.now (done ++ n ∷ [])) (sym rest) lead,
      c.in_ok-set_bit.ensures ∙ ap (with_number n) c.numbers.invariant.2 ∙ sym (with_last done [] n),
    )

pub numbers-smaller : goal.numbers-smaller
numbers-smaller c =
    let some = bit_some c.args.shown c.split_word.result.0.now c.in-Some.number c.in-Some.ensures in
    omega (arith, some, c.split_word.ensures.whole, c.after_spaces-left-in-numbers.ensures.within)

pub returns : goal.returns
returns c =
    let left : List ℕ = c.numbers.left.now in
    let ns = c.numbers.invariant.0 in
    let words = bits_end c.args.shown c.args.text.now ns left c.numbers.invariant.1 (is_empty left _ c.is_empty.ensures c.numbers-test.false) in
    let own : List ℕ = c.numbers.own.items in
    (octets own, (own, (ns, words, c.numbers.invariant.2), refl), c.in_ok-extend_from_slice.ensures.items ∙ ap (λ (xs : List ℕ). c.args.out.now.items ++ xs) c.as_slice.ensures.value)

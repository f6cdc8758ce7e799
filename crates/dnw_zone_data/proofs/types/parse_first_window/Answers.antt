use Rattle.std.proofs.Common.{List, ℕ, [], ◌∷◌, ◌++◌, ◌+◌, ◌/◌, take, refl, sym, ap, ◌∙◌, subst, append_assoc, arith}
use Rattle.dnw_data.specs.declared.kind.ListKind.TheVariants as lists
use Rattle.dnw_data.specs.Values.{types, items}
use Rattle.dnw_zone_data.specs.Words.{after_spaces, word}
use Rattle.dnw_zone_data.specs.TypeLists.{IsTypeWord}
use Rattle.dnw_zone_data.specs.Inside.TypeWords.{LeadToTypes}
use Rattle.dnw_zone_data.proofs.Empty.{is_empty, not_empty}
use Rattle.dnw_zone_data.proofs.FirstWindow.{lists_more, lists_none, window_bitmap}
use Rattle.dnw_zone_data.proofs.TypeSteps.{word_some, types_more, types_end}
use Rattle.dnw_zone_data.proofs.types.parse_first_window.Goals as goal

pub types-init : goal.types-init
types-init c = ([], c.after_spaces-left.ensures.rest, lists_none)

pub types-preserved : goal.types-preserved
types-preserved c =
    let (listed, lead, so) = c.types.invariant in
    let left : List ℕ = c.types.left.now in
    let kind = c.in-Some.record_type in
    let is : IsTypeWord (word left) kind = subst (λ (w : List ℕ). IsTypeWord w kind) c.split_word.ensures.word c.in-Some.ensures in
    let more = types_more c.args.text.now listed left kind lead (not_empty left _ c.is_empty.ensures c.types-test.true) is in
    let rest = c.after_spaces-left-in-types.ensures.rest ∙ ap after_spaces c.split_word.ensures.rest in (
      listed ++ kind ∷ [],
      subst (LeadToTypes c.args.text.now (listed ++ kind ∷ [])) (sym rest) more,
      lists_more listed c.types.octets c.types.next c.from-code.result kind so (omega (arith, c.if-code-next.false)) (omega (arith, c.if-code-ge-WINDOW_CODES.false))
          (c.from-code.ensures ∙ c.from.ensures),
    )

pub types-smaller : goal.types-smaller
types-smaller c =
    let some = word_some c.split_word.result.0.now c.in-Some.record_type c.in-Some.ensures in
    omega (arith, some, c.split_word.ensures.whole, c.after_spaces-left-in-types.ensures.within)

pub returns-clause-types : goal.returns-clause-types
returns-clause-types c = λ read.
    let (listed, lead, so) = c.types.invariant in
    let len = (c.types.next + 7) / 8 in
    let own : List ℕ = take len c.types.octets in
    let words = types_end c.args.text.now listed c.types.left.now lead (is_empty c.types.left.now _ c.is_empty.ensures c.types-test.false) in (
      types (items lists.Types (0 ∷ len ∷ own)),
      (listed, 0 ∷ len ∷ own, words, window_bitmap listed c.types.octets c.types.next so (omega (arith, c.if-next-eq0.false)), refl),
      c.in_ok-extend_from_slice-2.ensures.items ∙ ap (λ (xs : List ℕ). xs ++ own) c.in_ok-extend_from_slice.ensures.items
          ∙ append_assoc c.args.out.now.items (0 ∷ len ∷ []) own,
    )

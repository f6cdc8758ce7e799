use Rattle.std.proofs.Common.{List, ℕ, [], ◌∷◌, ◌++◌, sym, ap, ◌∙◌, subst, arith}
use Rattle.dnw_base.specs.declared.record_type.RecordType.{RecordType}
use Rattle.dnw_zone_data.specs.Words.{after_spaces, word}
use Rattle.dnw_zone_data.specs.TypeLists.{IsTypeWord}
use Rattle.dnw_zone_data.specs.Inside.TypeWords.{LeadToTypes}
use Rattle.dnw_zone_data.proofs.Empty.{is_empty}
use Rattle.dnw_zone_data.proofs.Empty.{not_empty}
use Rattle.dnw_zone_data.proofs.TypeSteps.{word_some, types_more, types_end, types_stop}
use Rattle.dnw_zone_data.proofs.types.types_of_words.Goals as goal

pub returns-in_default : goal.returns-in_default
returns-in_default c = λ listed are.
    let left : List ℕ = c.types.left.now in
    let none : (record_type : RecordType) → ¬ (IsTypeWord (word left) record_type) =
    λ record_type is. c.in_default.ensures record_type (subst (λ (w : List ℕ). IsTypeWord w record_type) (sym c.split_word.ensures.word) is) in
    types_stop c.args.text.now c.types.listed.items listed left c.types.invariant (not_empty left _ c.is_empty.ensures c.types-test.true) none are

pub types-preserved : goal.types-preserved
types-preserved c =
    let left : List ℕ = c.types.left.now in
    let kind = c.in-Some.record_type in
    let is : IsTypeWord (word left) kind = subst (λ (w : List ℕ). IsTypeWord w kind) c.split_word.ensures.word c.in-Some.ensures in
    let lead = types_more c.args.text.now c.types.listed.items left kind c.types.invariant (not_empty left _ c.is_empty.ensures c.types-test.true) is in
    let rest = c.after_spaces-left-in-types.ensures.rest ∙ ap after_spaces c.split_word.ensures.rest in
    subst (λ (l : List RecordType). LeadToTypes c.args.text.now l c.after_spaces-left-in-types.result.now) (sym c.in_ok-push.ensures.items) (subst (LeadToTypes c.args.text.now (c.types.listed.items ++ kind ∷ [])) (sym rest) lead)

pub types-smaller : goal.types-smaller
types-smaller c =
    let some = word_some c.split_word.result.0.now c.in-Some.record_type c.in-Some.ensures in
    omega (arith, some, c.split_word.ensures.whole, c.after_spaces-left-in-types.ensures.within)

pub returns : goal.returns
returns c = types_end c.args.text.now c.types.listed.items c.types.left.now c.types.invariant (is_empty c.types.left.now _ c.is_empty.ensures c.types-test.false)

use Rattle.std.proofs.Common.{refl, List, ℕ, [], ◌∷◌, ◌++◌, sym, ap, ◌∙◌, append_assoc, append-nil, subst, arith}
use Rattle.std.specs.Prelude.{flat_map}
use Rattle.dnw_data.specs.declared.kind.ListKind.TheVariants as lists
use Rattle.dnw_data.specs.Values.{prefixes, items}
use Rattle.dnw_zone_values.specs.Prefixes.{IsPrefixText}
use Rattle.dnw_zone_data.specs.Words.{after_spaces, word}
use Rattle.dnw_zone_data.specs.Inside.PrefixWords.{LeadToPrefixes}
use Rattle.dnw_zone_data.proofs.Strings.{last}
use Rattle.dnw_zone_data.proofs.PrefixSteps.{prefixes_more, prefixes_end, prefixes_stop, word_some}
use Rattle.dnw_zone_data.proofs.Empty.{is_empty, not_empty}
use Rattle.dnw_zone_data.proofs.prefixes.parse_prefixes.Goals as goal

pub prefixes-init : goal.prefixes-init
prefixes-init c = ([], c.after_spaces-left.ensures.rest, sym (append-nil c.args.out.now.items))

pub returns-then-not-branch : goal.returns-then-not-branch
returns-then-not-branch c = λ value are.
    let left : List ℕ = c.prefixes.left.now in
    let no-prefix = rw c.if-not-branch.true at c.in_ok-push_prefix.ensures in
    let no-word : (own : List ℕ) → ¬ (IsPrefixText (word left) own) =
    λ own is. no-prefix own (subst (λ (w : List ℕ). IsPrefixText w own) (sym c.split_word.ensures.word) is) in
    prefixes_stop c.args.text.now c.prefixes.invariant.0 are.0 left c.prefixes.invariant.1 (not_empty left _ c.is_empty.ensures c.prefixes-test.true) no-word are.1

pub prefixes-preserved : goal.prefixes-preserved
prefixes-preserved c =
    let left : List ℕ = c.prefixes.left.now in
    let done = c.prefixes.invariant.0 in
    let old : List ℕ = c.args.out.now.items in
    let all = λ (own : List ℕ). own in
    let (own, prefix, items) = rw c.if-not-branch.false at c.in_ok-push_prefix.ensures in
    let is = subst (λ (w : List ℕ). IsPrefixText w own) c.split_word.ensures.word prefix in
    let lead = prefixes_more c.args.text.now done left own c.prefixes.invariant.1 (not_empty left _ c.is_empty.ensures c.prefixes-test.true) is in
    let rest = c.after_spaces-left-in-prefixes.ensures.rest ∙ ap after_spaces c.split_word.ensures.rest in (
      done ++ own ∷ [],
      subst (LeadToPrefixes c.args.text.now (done ++ own ∷ [])) (sym rest) lead,
      items ∙ ap (λ (xs : List ℕ). xs ++ own) c.prefixes.invariant.2 ∙ append_assoc old (flat_map all done) own
          ∙ ap (λ (xs : List ℕ). old ++ xs) (sym (last all done own)),
    )

pub prefixes-smaller : goal.prefixes-smaller
prefixes-smaller c =
    let (own, prefix, items) = rw c.if-not-branch.false at c.in_ok-push_prefix.ensures in
    let some = word_some c.split_word.result.0.now own prefix in
    omega (arith, some, c.split_word.ensures.whole, c.after_spaces-left-in-prefixes.ensures.within)

pub returns : goal.returns
returns c =
    let listed = c.prefixes.invariant.0 in
    let own : List ℕ = flat_map (λ (x : List ℕ). x) listed in
    let words = prefixes_end c.args.text.now listed c.prefixes.left.now c.prefixes.invariant.1 (is_empty c.prefixes.left.now _ c.is_empty.ensures c.prefixes-test.false) in
    (prefixes (items lists.Prefixes own), (listed, words, refl), c.prefixes.invariant.2)

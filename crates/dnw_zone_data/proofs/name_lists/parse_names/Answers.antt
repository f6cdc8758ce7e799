use Rattle.std.proofs.Common.{◌≡◌, ◌++◌, ◌∷◌, [], List, ℕ, refl, sym, ap, ◌∙◌, subst, arith, append_assoc}
use Rattle.std.specs.Prelude.{flat_map, Some, None}
use Rattle.std.specs.Option.{option_copied}
use Rattle.dnw_base.specs.Names.{wire}
use Rattle.dnw_data.specs.declared.kind.ListKind.TheVariants as lists
use Rattle.dnw_data.specs.Values.{items, names}
use Rattle.dnw_zone_data.specs.NameReading.{named_at}
use Rattle.dnw_zone_data.specs.Words.{after_spaces, word}
use Rattle.dnw_zone_data.specs.Inside.NameWords.{LeadToNames}
use Rattle.dnw_zone_data.proofs.Empty.{is_empty, not_empty}
use Rattle.dnw_zone_data.proofs.NameSteps.{name_some, names_end, names_more, names_stop}
use Rattle.dnw_zone_data.proofs.Strings.{last}
use Rattle.dnw_zone_data.proofs.name_lists.parse_names.Goals as goal

pub returns-then-not-branch : goal.returns-then-not-branch
returns-then-not-branch c =
    let origin = option_copied c.args.origin in
    let left : List ℕ = c.names.left.now in
    let (none, same) = rw c.if-not-branch.true at c.in_ok-append_name.ensures in
    let no-name : named_at origin (word left) ≡ None = subst (λ (w : List ℕ). named_at origin w ≡ None) c.split_word.ensures.word none in
    λ value is. names_stop origin c.args.text.now c.names.invariant.0 is.0 left c.names.invariant.1 (not_empty left _ c.is_empty.ensures c.names-test.true) no-name is.1

pub names-preserved : goal.names-preserved
names-preserved c =
    let origin = option_copied c.args.origin in
    let left : List ℕ = c.names.left.now in
    let done = c.names.invariant.0 in
    let old : List ℕ = c.args.out.now.items in
    let (labels, named, items) = rw c.if-not-branch.false at c.in_ok-append_name.ensures in
    let is : named_at origin (word left) ≡ Some labels = subst (λ (w : List ℕ). named_at origin w ≡ Some labels) c.split_word.ensures.word named in
    let lead = names_more origin c.args.text.now done left labels c.names.invariant.1 (not_empty left _ c.is_empty.ensures c.names-test.true) is in
    let rest = c.after_spaces-left-in-names.ensures.rest ∙ ap after_spaces c.split_word.ensures.rest in
    let wires = items ∙ ap (λ (xs : List ℕ). xs ++ wire labels) c.names.invariant.2 ∙ append_assoc old (flat_map wire done) (wire labels)
    ∙ ap (λ (xs : List ℕ). old ++ xs) (sym (last wire done labels)) in
    (done ++ labels ∷ [], subst (LeadToNames origin c.args.text.now (done ++ labels ∷ [])) (sym rest) lead, wires)

pub names-smaller : goal.names-smaller
names-smaller c =
    let (labels, named, items) = rw c.if-not-branch.false at c.in_ok-append_name.ensures in
    let some = name_some (option_copied c.args.origin) c.split_word.result.0.now labels named in
    omega (arith, some, c.split_word.ensures.whole, c.after_spaces-left-in-names.ensures.within)

pub returns : goal.returns
returns c =
    let listed = c.names.invariant.0 in
    let words = names_end (option_copied c.args.origin) c.args.text.now listed c.names.left.now c.names.invariant.1 (is_empty c.names.left.now _ c.is_empty.ensures c.names-test.false) in
    (names (items lists.Names (flat_map wire listed)), (listed, words, refl), c.names.invariant.2)

use Rattle.std.proofs.Common.{◌≡◌, ◌<◌, refl, List, ℕ, [], ◌∷◌, ◌++◌, length, length-append, sym, ap, ◌∙◌, subst, arith}
use Rattle.std.specs.Prelude.{flat_map}
use Rattle.dnw_base.specs.Limits.{max_data}
use Rattle.dnw_base.specs.Names.{label_wire}
use Rattle.dnw_data.specs.Values.{counted}
use Rattle.dnw_zone_data.specs.Words.{after_spaces, after_word, word}
use Rattle.dnw_zone_values.specs.Strings.{IsStringText}
use Rattle.dnw_zone_data.specs.Inside.StringWords.{LeadTo}
use Rattle.dnw_zone_data.proofs.Rests.{one_more, no_texts, none_are, no_many, too_many, all_texts}
use Rattle.dnw_zone_data.proofs.Empty.{is_empty, not_empty}
use Rattle.dnw_zone_data.proofs.string_lists.append_strings.Goals as goal

pub returns-then-is_empty : goal.returns-then-is_empty
returns-then-is_empty c =
    let none : after_spaces c.args.text.now ≡ [] = sym c.after_spaces-left.ensures.rest ∙ is_empty c.after_spaces-left.result.now _ c.is_empty.ensures c.if-is_empty.true in
    (none_are c.args.text.now none, no_many c.args.text.now [] [] (sym none) (λ some. absurd (some refl)) (omega arith))

pub returns-then-not-branch : goal.returns-then-not-branch
returns-then-not-branch c =
    let left : List ℕ = c.strings.left.now in
    let none = rw c.if-not-branch.true at c.in_ok-parse_counted.ensures in
    let no-word : (own : List ℕ) → ¬ (IsStringText (word left) own) =
    λ own is. none (counted own) (own, subst (λ (w : List ℕ). IsStringText w own) (sym c.split_word.ensures.word) is, refl) in (
      no_texts c.args.text.now c.strings.invariant.0 left c.strings.invariant.1 (not_empty left _ c.is_empty-in-strings.ensures c.strings-test.true) no-word,
      no_many c.args.text.now c.strings.invariant.0 left c.strings.invariant.1 (λ _. no-word) c.strings.invariant.3,
    )

pub returns-then-len-first-gt-MAX_DATA : goal.returns-then-len-first-gt-MAX_DATA
returns-then-len-first-gt-MAX_DATA c =
    let left : List ℕ = c.strings.left.now in
    let done = c.strings.invariant.0 in
    let old : List ℕ = c.args.out.now.items in
    let so_far : List ℕ = c.strings.out.items in
    let new : List ℕ = c.parse_counted.new.out.items in
    let (value, (own, string, same), items) = rw c.if-not-branch.false at c.in_ok-parse_counted.ensures in
    let all = done ++ own ∷ [] in
    let some = not_empty left _ c.is_empty-in-strings.ensures c.strings-test.true in
    let (lead, wire) =
    one_more c.args.text.now done left _ own old so_far new value c.strings.invariant.1 some c.split_word.ensures.word string c.strings.invariant.2 same items in
    let many : max_data < length (flat_map label_wire all) =
    omega (arith, c.if-len-first-gt-MAX_DATA.true, c.len.ensures, c.len-first.ensures, ap length wire, length-append old (flat_map label_wire all)) in
    too_many c.args.text.now all (after_spaces (after_word left)) lead many

pub strings-preserved : goal.strings-preserved
strings-preserved c =
    let left : List ℕ = c.strings.left.now in
    let done = c.strings.invariant.0 in
    let old : List ℕ = c.args.out.now.items in
    let so_far : List ℕ = c.strings.out.items in
    let new : List ℕ = c.parse_counted.new.out.items in
    let (value, (own, string, same), items) = rw c.if-not-branch.false at c.in_ok-parse_counted.ensures in
    let all = done ++ own ∷ [] in
    let some = not_empty left _ c.is_empty-in-strings.ensures c.strings-test.true in
    let (lead, wire) =
    one_more c.args.text.now done left _ own old so_far new value c.strings.invariant.1 some c.split_word.ensures.word string c.strings.invariant.2 same items in
    let rest = c.after_spaces-left-in-strings.ensures.rest ∙ ap after_spaces c.split_word.ensures.rest in (
      all,
      subst (LeadTo c.args.text.now all) (sym rest) lead,
      wire,
      omega (arith, c.if-len-first-gt-MAX_DATA.false, c.len.ensures, c.len-first.ensures, ap length wire, length-append old (flat_map label_wire all)),
    )

pub returns : goal.returns
returns c =
    let left : List ℕ = c.strings.left.now in
    let some = not_empty c.after_spaces-left.result.now _ c.is_empty.ensures c.if-is_empty.false in
    all_texts c.args.text.now c.args.out.now.items c.strings.out.items left c.strings.invariant.0 c.strings.invariant.1
    (is_empty left _ c.is_empty-in-strings.ensures c.strings-test.false) (subst (λ (xs : List ℕ). xs ≡ [] → ⊥) c.after_spaces-left.ensures.rest some) c.strings.invariant.2 c.strings.invariant.3

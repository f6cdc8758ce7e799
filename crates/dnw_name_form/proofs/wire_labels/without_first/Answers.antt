-- Labels are passed from the left.
use Rattle.std.proofs.Common.{◌≡◌, List, ℕ, Option, Some, None, Bor, drop, sym, ap, ◌∙◌, arith}
use Rattle.std.specs.Iterator.{YieldsFirstRef}
use Rattle.std.proofs.lemmas.List.{drop-drop}
use Rattle.dnw_name_form.proofs.wire_labels.without_first.Goals as goal

drop_one : (r : Option (Bor (List ℕ))) (xs ys : List (List ℕ)) → YieldsFirstRef (λ labels. labels) xs r ys → ys ≡ drop 1 xs
drop_one None xs ys (none, after) = after ∙ ap (drop 1) (sym none)
drop_one (Some x) xs ys first = ap (drop 1) (sym first)

pub passed-preserved : goal.passed-preserved
passed-preserved c =
    drop_one _ _ _ c.next-passed.ensures.steps ∙ ap (drop 1) c.passed.invariant ∙ drop-drop 1 c.passed.counter c.args.labels

pub returns : goal.returns
returns c =
    let all : c.passed.counter ≡ c.args.count = omega arith in
    c.passed.invariant ∙ rw all

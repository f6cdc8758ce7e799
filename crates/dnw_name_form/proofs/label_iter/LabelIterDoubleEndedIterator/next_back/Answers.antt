-- The first label after all others but the last one is the last one.
use Rattle.std.proofs.Common.{◌≡◌, ℕ, suc, ◌-◌, ◌<◌, Option, Some, None, Bor, List, [], ◌∷◌, ◌++◌, length, get_or, take, drop, sym, ap, ◌∙◌, subst, arith, length-drop}
use Rattle.std.specs.Iterator.{YieldsFirstRef, YieldsLastRef}
use Rattle.std.proofs.Math.Seq.{drop-cons, take-suc}
use Rattle.dnw_name_form.proofs.label_iter.LabelIterDoubleEndedIterator.next_back.Goals as goal

last_left : (n : ℕ) (r : Option (Bor (List ℕ))) (ls after : List (List ℕ)) → YieldsFirstRef (λ labels. labels) (drop n ls) r after → n < length ls
    → YieldsLastRef (λ labels. labels) (take (suc n) ls) r (take n ls)
last_left n None ls after (none, _) some = absurd (omega (arith, ap length none, length-drop n ls))
last_left n (Some x) ls after split some =
    let here : x.now ∷ after ≡ get_or ls n [] ∷ drop (suc n) ls = sym split ∙ drop-cons ls n [] some in
    let last : x.now ≡ get_or ls n [] = cc in
    take-suc ls n [] some ∙ ap (λ (l : List ℕ). take n ls ++ l ∷ []) (sym last)

pub returns-clause-steps : goal.returns-clause-steps
returns-clause-steps c =
    let labels = c.self.inside.labels in
    let n = c.self.inside.left - 1 in
    let steps = rw (c.without_first.ensures, c.clone.ensures.same) at c.next.ensures.steps in
    let all : suc n ≡ c.self.inside.left = omega (arith, c.if-self-eq0.false) in
    subst (λ (ls : List (List ℕ)). YieldsLastRef (λ labels. labels) ls c.next.result (take n labels)) (ap (λ (k : ℕ). take k labels) all ∙ c.self.view_is)
    (last_left n c.next.result labels c.next.new.self steps (omega (arith, c.self.invariant, all)))

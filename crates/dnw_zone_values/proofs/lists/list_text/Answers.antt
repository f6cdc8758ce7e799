use Rattle.std.proofs.Common.{◌≡◌, List, ℕ, ◌++◌, ◌∷◌, [], take, drop, refl, sym, ap, ◌∙◌, arith, append_assoc}
use Rattle.std.proofs.lemmas.List.{take-append-drop}
use Rattle.dnw_zone_values.specs.CommaLists.{comma}
use Rattle.dnw_zone_values.specs.ParamValues.{text_of_item}
use Rattle.dnw_zone_values.proofs.Steps.{items_more}
use Rattle.dnw_zone_values.proofs.lists.list_text.Goals as goal

pub loop-left-preserved : goal.loop-left-preserved
loop-left-preserved c =
    let (n, few, so_far) = c.loop-left.invariant in
    let left : List ℕ = c.loop-left.left.now in
    let own : List ℕ = c.in-Some.own.now in
    let rest : List ℕ = c.in-Some.rest.now in
    let found : List ℕ = c.loop-left.text.items in
    let parts = c.in-Some.ensures.cases in
    let size = c.octets_of_item-size.ensures in
    let whole : left ≡ own ++ rest = sym (take-append-drop c.octets_of_item-size.result left) ∙ rw (parts.1, parts.2) refl in
    let text = text_of_item c.args.list own in
    items_more c.args.list c.args.octets.now left own rest found c.push_text.new.text.items n so_far few whole (parts.1 ∙ ap (λ (k : ℕ). take k left) size)
    (parts.2 ∙ ap (λ (k : ℕ). drop k left) size) (omega (arith, c.if-size-lt2.false, size)) (omega (arith, parts.0, size))
    (c.in_ok-push_text.ensures ∙ ap (λ (xs : List ℕ). xs ++ text) c.in_ok-push.ensures.items ∙ append_assoc found (comma ∷ []) text)

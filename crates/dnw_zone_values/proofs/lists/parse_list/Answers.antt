use Rattle.std.proofs.Common.{List, ℕ, ◌++◌, ◌∷◌, [], sym, subst}
use Rattle.dnw_zone_values.specs.CommaLists.{items_of}
use Rattle.dnw_zone_values.specs.ParamValues.{IsItem}
use Rattle.dnw_zone_values.specs.Inside.Steps.{TakesListItem}
use Rattle.dnw_zone_values.proofs.Steps.{after_nil, item_more, no_list, last_item, next_item}
use Rattle.dnw_zone_values.proofs.lists.parse_list.Goals as goal

pub items-init : goal.items-init
items-init c = ([], after_nil (items_of c.args.text.now), c.new-own.ensures.items)

pub returns-then-not-branch : goal.returns-then-not-branch
returns-then-not-branch c = λ own is.
    let item : List ℕ = c.next_item.new.item.items in
    let no-own = rw c.if-not-branch.true at c.in_ok-push_item.ensures in
    let none : (first : List ℕ) → ¬ (IsItem c.args.list item first) =
    λ first here. no-own first (subst (λ (xs : List ℕ). IsItem c.args.list xs first) (sym c.as_slice.ensures.value) here) in
    no_list c.args.list c.args.text.now c.items.left.now c.items.invariant.0 item own c.in_ok-after.after c.in_default.not-Fault c.in_ok-after.ensures c.items.invariant.1 none is

pub returns-in_default-after : goal.returns-in_default-after
returns-in_default-after c =
    let item : List ℕ = c.next_item.new.item.items in
    let (done, so_far, are) = c.items.invariant in
    let (own, is, e) = rw c.if-not-branch.false at c.in_ok-push_item.ensures in
    let here : IsItem c.args.list item own = subst (λ (xs : List ℕ). IsItem c.args.list xs own) c.as_slice.ensures.value is in (
      done ++ item ∷ [],
      last_item c.args.text.now c.items.left.now done item c.in_ok-after.after c.in_default.not-Fault c.in_default-after.not-Items c.in_ok-after.ensures so_far,
      item_more c.args.list done c.items.own.items own c.push_item.new.out.items item are here e,
    )

pub items-preserved : goal.items-preserved
items-preserved c =
    let item : List ℕ = c.next_item.new.item.items in
    let (done, so_far, are) = c.items.invariant in
    let (own, is, e) = rw c.if-not-branch.false at c.in_ok-push_item.ensures in
    let here : IsItem c.args.list item own = subst (λ (xs : List ℕ). IsItem c.args.list xs own) c.as_slice.ensures.value is in
    let takes = subst (λ a. TakesListItem c.items.left.now item a) c.in-Items.is c.in_ok-after.ensures in (
      done ++ item ∷ [],
      next_item c.args.text.now c.items.left.now c.in-Items.rest.now done item takes.0 so_far,
      item_more c.args.list done c.items.own.items own c.push_item.new.out.items item are here e,
    )

use Rattle.std.proofs.Common.{◌≡◌, ◌-◌, ◌<◌, length, take, drop, refl, sym, ap, ◌∙◌, arith, length-drop}
use Rattle.dnw_data.specs.Lists.{head_size}
use Rattle.dnw_data.proofs.Checking.{first_item, item_size_some, rest_is, some_left}
use Rattle.dnw_data.proofs.lists.ItemsIterator.next.Goals as goal

pub invariant_of-self : goal.invariant_of-self
invariant_of-self c =
    let (head, whole) = rw c.unwrap-head.ensures at c.head_of.ensures.ok in
    let some = some_left _ (sym c.is_empty.ensures ∙ c.if-is_empty.false) in
    rw (rest_is c.unwrap-head.result.size c.self.inside.octets.now, head.2) (first_item _ _ c.self.invariant some).1

pub returns-clause-steps : goal.returns-clause-steps
returns-clause-steps c =
    let (head, whole) = rw c.unwrap-head.ensures at c.head_of.ensures.ok in
    let start : c.unwrap-head.result.size - c.unwrap-head.result.count ≡ head_size c.self.inside.kind = omega (arith, head.1, head.2) in
    rw (← c.self.view_is) (head.0, rw (start, head.2) refl, rw (rest_is c.unwrap-head.result.size c.self.inside.octets.now, head.2) refl)

pub returns-clause-goes : goal.returns-clause-goes
returns-clause-goes c =
    let (head, whole) = rw c.unwrap-head.ensures at c.head_of.ensures.ok in
    let left = c.self.inside.octets.now in
    let size = c.unwrap-head.result.size in
    let less : length (take (length left - size) (drop size left)) < length left =
    omega (arith, head.2, whole, item_size_some c.self.inside.kind left, ap length (rest_is size left), length-drop size left) in
    record { on = λ _. (tt, tt, rw (← c.self.view_is) less); keeps = tt; rests = λ _. tt }

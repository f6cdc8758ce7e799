use Rattle.std.proofs.Common.{◌-◌, ◌<◌, length, take, drop, sym, ap, ◌∙◌, arith, length-drop}
use Rattle.dnw_data.proofs.Checking.{begins, goes_on, item_size_some, rest_is, some_left}
use Rattle.dnw_data.proofs.lists.check.Goals as goal

pub items-init : goal.items-init
items-init c = begins c.args.kind c.args.octets.now

pub items-preserved : goal.items-preserved
items-preserved c =
    let (is, whole) = c.in_ok-head.ensures.ok in
    goes_on _ _ c.items.left.now c.items.least c.items.invariant (some_left _ (sym c.is_empty.ensures ∙ c.items-test.true)) _ _ _ is.0 is.1 is.2 (omega (arith, is.2, whole))
    (sym c.may_come.ensures ∙ c.if-not-may_come.false) c.in_ok-check_item.ensures.ok

pub items-smaller : goal.items-smaller
items-smaller c =
    let (is, whole) = c.in_ok-head.ensures.ok in
    let left = c.items.left.now in
    let size = c.in_ok-head.head.size in
    let less : length (take (length left - size) (drop size left)) < length left =
    omega (arith, is.2, whole, item_size_some c.args.kind left, ap length (rest_is size left), length-drop size left) in
    less

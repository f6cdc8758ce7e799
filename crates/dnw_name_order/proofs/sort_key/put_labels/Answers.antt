use Rattle.std.proofs.Common.{◌≡◌, ℕ, ◌+◌, List, length, ap, ◌∙◌, length-append, arith}
use Rattle.std.specs.List.{flat_map}
use Rattle.dnw_base.specs.Names.{lower}
use Rattle.dnw_name_form.specs.LabelOrder.{lower_label}
use Rattle.dnw_name_order.specs.SortKeys.{label_key}
use Rattle.dnw_name_order.proofs.SortKeys.{keys_are_short}
use Rattle.dnw_name_order.proofs.sort_key.put_labels.Goals as goal

pub put_label-end-requires : goal.put_label-end-requires
put_label-end-requires c =
    let first = label_key (lower_label c.in-Some.label.now) in
    let others = flat_map label_key (lower c.next.new.self) in
    let size : length (flat_map label_key (lower c.labels.rest)) ≡ length first + length others =
    ap (λ (ls : List (List ℕ)). length (flat_map label_key (lower ls))) c.in-Some.ensures ∙ length-append first others in
    omega (arith, size, c.labels.invariant.size, keys_are_short c.args.labels c.as_wire.ensures.labels)

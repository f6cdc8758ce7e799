-- Octets are equal in lower case if and only if they compare as equal.
use Rattle.std.proofs.Common.{rules, ◌≡◌, IsTrue, nat_cmp, length, map, sym, ap, ◌∙◌, subst}
use Rattle.std.specs.Char.{to_ascii_lowercase}
use Rattle.std.specs.Cmp.{Equal-is}
use Rattle.std.proofs.lemmas.List.{length-map}
use Rattle.dnw_base.specs.Names.{wire}
use Rattle.dnw_name_form.proofs.LowerWires.{lower_wires}
use Rattle.dnw_name_form.proofs.LabelOrders.{slice_cmp_on}
use Rattle.dnw_name_form.specs.LabelOrder.{octets_cmp}
use Rattle.dnw_name_order.proofs.SortKeys.{equal_is}
use Rattle.dnw_name_order.proofs.order.eq_labels.Goals as goal

pub returns-then-left-right : goal.returns-then-left-right
returns-then-left-right c =
    let same = lower_wires c.args.left c.args.right c.as_wire-left.ensures.labels c.as_wire-right.ensures.labels in (
      λ no. search rules,
      λ lowered.
          let sizes = ap length (same.1 lowered) in
          absurd (c.if-left-right.true (
          ap length c.as_wire-left.ensures.form ∙ sym (length-map (wire c.args.left) to_ascii_lowercase) ∙ sizes
          ∙ length-map (wire c.args.right) to_ascii_lowercase ∙ sym (ap length c.as_wire-right.ensures.form)
          )),
    )

pub returns : goal.returns
returns c =
    let left = map to_ascii_lowercase (wire c.args.left) in
    let right = map to_ascii_lowercase (wire c.args.right) in
    let same = lower_wires c.args.left c.args.right c.as_wire-left.ensures.labels c.as_wire-right.ensures.labels in
    let test = equal_is left right in
    let order : c.cmp_label.result ≡ octets_cmp left right =
    rw (c.as_wire-left.ensures.form, c.as_wire-right.ensures.form) at c.cmp_label.ensures ∙ slice_cmp_on to_ascii_lowercase nat_cmp (wire c.args.left) (wire c.args.right) in
    let equal = Equal-is c.cmp_label.result in (
      λ yes. same.0 (test.0 (sym order ∙ equal.0 (subst IsTrue c.is_eq.ensures yes))),
      λ lowered. subst IsTrue (sym c.is_eq.ensures) (equal.1 (order ∙ test.1 (same.1 lowered))),
    )

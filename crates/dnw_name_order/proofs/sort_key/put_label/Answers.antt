use Rattle.std.proofs.Common.{List, ℕ, ◌+◌, ◌++◌, length, take, drop, ap, sym, ◌∙◌, append_assoc, length-append, arith}
use Rattle.dnw_name_form.specs.LabelOrder.{lower_label}
use Rattle.dnw_name_order.specs.SortKeys.{escape_octet, label_key}
use Rattle.dnw_name_order.proofs.SortKeys.{octet_next}
use Rattle.dnw_name_order.proofs.sort_key.put_label.Goals as goal

pub put_octet-end-requires : goal.put_octet-end-requires
put_octet-end-requires c =
    let more = octet_next c.args.label.now c.loop-octet.octet-index c.lower.result c.loop-octet-test.true c.lower.ensures in
    omega (arith, ap length more, length-append {A = ℕ}, c.loop-octet.invariant.size, c.requires)

pub loop-octet-preserved : goal.loop-octet-preserved
loop-octet-preserved c =
    let octets = escape_octet c.lower.result in
    let others = label_key (lower_label (drop (c.loop-octet.octet-index + 1) c.args.label.now)) in
    let more = octet_next c.args.label.now c.loop-octet.octet-index c.lower.result c.loop-octet-test.true c.lower.ensures in
    record {
      octets =
          ap (λ (front : List ℕ). front ++ others) c.put_octet-end.ensures.front
          ∙ append_assoc (take c.loop-octet.end c.loop-octet.buffer) octets others
          ∙ ap (λ (rest : List ℕ). take c.loop-octet.end c.loop-octet.buffer ++ rest) (sym more)
          ∙ c.loop-octet.invariant.octets;
      size = omega (arith, c.put_octet-end.ensures.size, ap length more, length-append octets others, c.loop-octet.invariant.size);
    }

use Rattle.std.proofs.Common.{◌≡◌, ◌+◌, ◌++◌, length, take, drop}
use Rattle.dnw_name_form.specs.LabelOrder.{lower_label}
use Rattle.dnw_name_order.specs.SortKeys.{label_key}
use Rattle.dnw_name_order.proofs.sort_key.put_label.Given as goal

abbrev pub invariant-loop-octet : goal.invariant-loop-octet
invariant-loop-octet l = record {
  octets : take l.end l.buffer ++ label_key (lower_label (drop l.octet-index l.label)) ≡ take l.fn.start l.fn.buffer ++ label_key (lower_label l.label);
  size : l.end + length (label_key (lower_label (drop l.octet-index l.label))) ≡ l.fn.start + length (label_key (lower_label l.label));
}

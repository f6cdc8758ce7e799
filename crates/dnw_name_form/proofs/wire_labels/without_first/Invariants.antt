use Rattle.std.proofs.Common.{◌≡◌, drop}
use Rattle.dnw_name_form.proofs.wire_labels.without_first.Given as goal

abbrev pub invariant-passed : goal.invariant-passed
invariant-passed l = l.labels ≡ drop l.counter l.fn.labels

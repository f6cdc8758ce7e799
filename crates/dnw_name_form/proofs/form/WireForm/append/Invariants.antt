use Rattle.std.proofs.Common.{◌≡◌, length}
use Rattle.std.specs.List.{AllByRecursion}
use Rattle.dnw_base.specs.Labels.{IsLabel}
use Rattle.dnw_name_form.specs.Edits.{with_labels}
use Rattle.dnw_name_form.proofs.form.WireForm.append.Given as goal

-- what is left, after what there is, gives what all gives
abbrev pub invariant-labels : goal.invariant-labels
invariant-labels l = record {
  rest : with_labels l.self l.labels ≡ with_labels l.fn.self l.fn.labels;
  each : AllByRecursion IsLabel l.labels;
}

abbrev pub decreases-labels : goal.decreases-labels
decreases-labels l = length l.labels

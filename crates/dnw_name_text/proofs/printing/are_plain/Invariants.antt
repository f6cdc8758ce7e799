use Rattle.std.proofs.Common.{◌≡◌, length}
use Rattle.std.specs.List.{list_all}
use Rattle.dnw_name_text.specs.PlainNames.{is_plain_label}
use Rattle.dnw_name_text.proofs.printing.are_plain.Given as goal

-- those that are left are plain if all are
abbrev pub invariant-labels : goal.invariant-labels
invariant-labels l = list_all is_plain_label l.labels ≡ list_all is_plain_label l.initial.labels

abbrev pub decreases-labels : goal.decreases-labels
decreases-labels l = length l.labels

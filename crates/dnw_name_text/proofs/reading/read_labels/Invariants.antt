use Rattle.std.proofs.Common.{◌≡◌, ◌+◌, [], length}
use Rattle.dnw_name_text.specs.declared.reading.Escape.TheVariants.{Outside}
use Rattle.dnw_name_text.specs.NameReading.{labels_from}
use Rattle.dnw_name_text.proofs.reading.read_labels.Given as goal

-- what is left, after the labels so far, gives what all gives
abbrev pub invariant-labels : goal.invariant-labels
invariant-labels l = record {
  gives : labels_from l.start l.form [] Outside l.rest ≡ labels_from 0 [] [] Outside l.text;
  size : l.start + length l.rest ≡ length l.text;
}

abbrev pub decreases-labels : goal.decreases-labels
decreases-labels l = length l.rest

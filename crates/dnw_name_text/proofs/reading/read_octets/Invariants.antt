use Rattle.std.proofs.Common.{◌≡◌, ◌+◌, ◌≤◌, [], length}
use Rattle.dnw_name_text.specs.declared.reading.Escape.TheVariants.{Outside}
use Rattle.dnw_name_text.specs.NameReading.{labels_from}
use Rattle.dnw_name_text.specs.Inside.Labels.{IsEscape}
use Rattle.dnw_name_text.proofs.reading.read_octets.Given as goal

-- what is left, after the octets of the label so far, gives what all gives
abbrev pub invariant-octets : goal.invariant-octets
invariant-octets l = record {
  gives : labels_from l.at l.form l.label.items l.escape l.rest ≡ labels_from l.start l.fn.form [] Outside l.text;
  within : IsEscape l.escape;
  size : l.at + length l.rest ≡ l.start + length l.text;
  onward : l.start ≤ l.at;
}

abbrev pub decreases-octets : goal.decreases-octets
decreases-octets l = length l.rest

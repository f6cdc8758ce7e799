use Rattle.std.proofs.Common.{◌≡◌, length, reverse}
use Rattle.dnw_name_arpa.specs.Arpa.{IsArpaPrefix, prefix_of}
use Rattle.dnw_name_arpa.specs.Inside.Reading.{prefix_after}
use Rattle.dnw_name_arpa.proofs.reading.read_values.Given as goal

-- the labels that are left, after the values so far, give what all labels give
abbrev pub invariant-labels : goal.invariant-labels
invariant-labels l = record {
  rest : prefix_after l.family l.values.items (reverse l.labels) ≡ prefix_of l.fn.family (reverse l.fn.labels);
  prefix : IsArpaPrefix (record { family = l.family; values = l.values.items });
  same : l.family ≡ l.fn.family;
}

abbrev pub decreases-labels : goal.decreases-labels
decreases-labels l = length (reverse l.labels)

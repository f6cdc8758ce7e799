use Rattle.std.proofs.Common.{◌≡◌, ◌+◌, length}
use Rattle.dnw_name_form.specs.Inside.WireBytes.{IsWire, labels_of}
use Rattle.dnw_name_form.proofs.wire_labels.count_labels.Given as goal

abbrev pub invariant-loop-others : goal.invariant-loop-others
invariant-loop-others l = record {
  rest : IsWire l.rest;
  counted : l.count + length (labels_of l.rest) ≡ length (labels_of l.wire);
}

abbrev pub decreases-loop-others : goal.decreases-loop-others
decreases-loop-others l = length (labels_of l.rest)

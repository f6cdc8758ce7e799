use Rattle.std.proofs.Common.{◌+◌, ◌^◌, ◌<◌, length, map}
use Rattle.std.specs.Iterator.{IsFinite, size}
use Rattle.dnw_name.specs.Inside.Joined.{HasJoined}
use Rattle.dnw_name.proofs.name.Name.from_labels.Given as goal

abbrev pub invariant-loop-label : goal.invariant-loop-label
invariant-loop-label g l = record {
  can : g.I.IntoIter.Iterator.can_next l.label-iterator;
  finite : IsFinite (g.I.IntoIter.Iterator.remaining l.label-iterator);
  few : length l.yielded + size (g.I.IntoIter.Iterator.remaining l.label-iterator) < 2 ^ 64;
  joined : HasJoined l.joining (map g.L.IntoLabel.label_of l.yielded);
}

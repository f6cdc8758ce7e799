-- A form's octets without the last one, which is the closing zero.
use Rattle.std.proofs.Common.{reverse, ap}
use Rattle.dnw_name_form.specs.Inside.WireBytes.{closed}
use Rattle.dnw_name_form.proofs.Wires.{front_of, labels_of_form}
use Rattle.dnw_name_order.proofs.from_last.FromLast.with_lengths.Goals as goal

pub invariant_of-result : goal.invariant_of-result
invariant_of-result c =
    let (wires, same) = labels_of_form _ c.args.labels (ap closed (front_of c.args.labels _ c.as_wire-wire.ensures.form)) c.as_wire-wire.ensures.labels in
    (wires, rw same c.requires)

pub returns : goal.returns
returns c = ap reverse (labels_of_form _ c.args.labels (ap closed (front_of c.args.labels _ c.as_wire-wire.ensures.form)) c.as_wire-wire.ensures.labels).1

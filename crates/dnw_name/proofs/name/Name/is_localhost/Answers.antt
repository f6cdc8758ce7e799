-- The constant is the wire form of `localhost`.
use Rattle.std.proofs.Common.{[], ◌∷◌, ◌∙◌, arith}
use Rattle.dnw_base.specs.Names.{AreLabels}
use Rattle.dnw_name_order.specs.Order.{localhost}
use Rattle.dnw_name_form.proofs.Wires.{IsWire_wire, labels_of_wire}
use Rattle.dnw_name.proofs.name.Name.is_localhost.Goals as goal

are_labels : AreLabels (localhost ∷ [])
are_labels = record { each = (record { not_empty = omega arith; not_long = omega arith }, tt); fit = omega arith }

pub new-requires : goal.new-requires
new-requires c = IsWire_wire (localhost ∷ []) are_labels

pub returns : goal.returns
returns c =
    let zone = c.new.ensures ∙ labels_of_wire (localhost ∷ []) are_labels.each in
    rw (zone, c.wire_labels.ensures.labels) at c.is_zone_of.ensures

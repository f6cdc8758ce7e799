-- Lower case changes no length octet, so what is lowered is the wire form of the lowered labels.
use Rattle.std.proofs.Common.{◌≡◌, map, ap, ◌∙◌}
use Rattle.std.specs.Char.{to_ascii_lowercase}
use Rattle.dnw_base.specs.Names.{lower}
use Rattle.dnw_name_form.specs.Inside.WireBytes.{IsWire, labels_of}
use Rattle.dnw_name_form.proofs.Wires.{labels_of_form}
use Rattle.dnw_name_form.proofs.LowerWires.{lower_wire, AreLabels_lower}
use Rattle.dnw_name_form.proofs.form.WireForm.to_lowercase.Goals as goal
use Rattle.dnw_name_form.proofs.form.WireForm.to_lowercase.Goals.{After-make_ascii_lowercase}

lowered : (c : After-make_ascii_lowercase)
    → IsWire c.make_ascii_lowercase.new.self × (labels_of c.make_ascii_lowercase.new.self ≡ lower (labels_of c.self.inside.bytes))
lowered c =
    let wire = c.self.invariant.0 in
    labels_of_form _ _
    (c.make_ascii_lowercase.ensures ∙ ap (map to_ascii_lowercase) (c.clone-bytes.ensures ∙ wire.spelled) ∙ lower_wire _ wire.labels.each) (AreLabels_lower _ wire.labels)

pub from_wire-requires : goal.from_wire-requires
from_wire-requires c = (lowered c).0

pub returns : goal.returns
returns c = c.from_wire.ensures ∙ (lowered (goal.at.returns c).After-make_ascii_lowercase).1 ∙ ap lower c.self.view_is

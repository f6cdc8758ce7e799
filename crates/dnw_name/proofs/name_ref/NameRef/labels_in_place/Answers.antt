use Rattle.std.proofs.Common.{ap, ◌∙◌, subst, arith}
use Rattle.dnw_base.specs.Names.{AreLabels, wire}
use Rattle.dnw_name_form.proofs.Wires.{labels_of_form}
use Rattle.dnw_name_read.proofs.Copying.{LiesAt_plain}
use Rattle.dnw_name_read.proofs.Found.{StandsAt_labels}
use Rattle.dnw_name.proofs.name_ref.NameRef.labels_in_place.Goals as goal

pub slice_bounds-octets-end : goal.slice_bounds-octets-end
slice_bounds-octets-end c = (LiesAt_plain c.self.invariant (omega arith)).0

pub new-requires : goal.new-requires
new-requires c =
    (labels_of_form _ c.args.self.now ((LiesAt_plain c.self.invariant (omega arith)).1 ∙ ap wire c.self.view_is)
    (subst AreLabels c.self.view_is (StandsAt_labels c.self.invariant.stands))).0

pub returns : goal.returns
returns c =
    let form = labels_of_form _ c.args.self.now ((LiesAt_plain c.self.invariant (omega arith)).1 ∙ ap wire c.self.view_is)
    (subst AreLabels c.self.view_is (StandsAt_labels c.self.invariant.stands)) in
    cc form.1

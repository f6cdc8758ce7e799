use Rattle.std.proofs.Common.{◌≡◌, take, ◌∙◌, arith}
use Rattle.dnw_base.specs.Names.{wire}
use Rattle.dnw_name_read.proofs.Copying.{wire_taken}
use Rattle.dnw_name_form.proofs.Wires.{labels_of_form}
use Rattle.dnw_name.proofs.name_ref.NameRef.wire_labels.Goals as goal
use Rattle.dnw_name.proofs.name_ref.NameRef.wire_labels.Goals.{After-fill}

pub fill-requires : goal.fill-requires
fill-requires c = omega (arith, c.told-room, c.encoded_len-size.ensures.labels.fit)

written : (c : After-fill) → take c.encoded_len-size.result c.fill.new.out ≡ wire c.args.self.now
written c = wire_taken c.args.self.now c.encoded_len-size.result c.args.room.now c.fill.new.out c.encoded_len-size.ensures.size c.fill.ensures

pub new-requires : goal.new-requires
new-requires c = (labels_of_form _ _ (written (goal.at.new-requires c).After-fill) c.encoded_len-size.ensures.labels).0

pub returns : goal.returns
returns c = c.new.ensures ∙ (labels_of_form _ _ (written (goal.at.returns c).After-fill) c.encoded_len-size.ensures.labels).1

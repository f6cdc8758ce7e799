use Rattle.std.proofs.Common.{[], ◌∙◌, arith}
use Rattle.dnw_name_form.proofs.Wires.{IsWire_wire, labels_of_wire}
use Rattle.dnw_message_writer.proofs.edns.root.Goals as goal

pub new-requires : goal.new-requires
new-requires c = IsWire_wire [] (record { each = tt; fit = omega arith })

pub returns : goal.returns
returns c = c.new.ensures ∙ labels_of_wire [] tt

use Rattle.std.proofs.Common.{length, ap, arith}
use Rattle.dnw_base.proofs.Wires.{length_wire}
use Rattle.dnw_name_form.proofs.form.WireForm.last.Goals as goal

pub from_slice-requires : goal.from_slice-requires
from_slice-requires c = omega (arith, ap length c.as_wire.ensures.form, length_wire c.last_labels.result, c.as_wire.ensures.labels.fit)

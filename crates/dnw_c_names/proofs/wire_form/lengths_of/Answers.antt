use Rattle.std.proofs.Common.{arith}
use Rattle.dnw_name_form.proofs.Wires.{few_octets}
use Rattle.dnw_c_names.proofs.wire_form.lengths_of.Goals as goal

pub returns-then-octets-gt-MAX_NAME : goal.returns-then-octets-gt-MAX_NAME
returns-then-octets-gt-MAX_NAME c = λ w. absurd (omega (arith, few_octets _ w, c.if-octets-gt-MAX_NAME.true))

-- A lone zero is the wire form of no labels.
use Rattle.std.proofs.Common.{[], refl, arith}
use Rattle.dnw_name_form.specs.Inside.WireBytes.{labels_of}
use Rattle.dnw_name_form.proofs.Wires.{IsWire_wire}
use Rattle.dnw_name_form.proofs.form.WireForm.new.Goals as goal

pub invariant_of-result : goal.invariant_of-result
unfolding labels_of
invariant_of-result c = rw (c.push.ensures, c.new-bytes.ensures) (IsWire_wire [] (record { each = tt; fit = omega arith }), refl)

pub returns : goal.returns
unfolding labels_of
returns c = rw (c.push.ensures, c.new-bytes.ensures) refl

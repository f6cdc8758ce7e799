use Rattle.std.proofs.Common.{◌≡◌, List, ℕ, true, ap, ◌∙◌, arith}
use Rattle.dnw_base.specs.Names.{NameValue}
use Rattle.dnw_name_read.proofs.Copying.{wire_taken}
use Rattle.dnw_name_form.specs.Inside.WireBytes.{IsWire, labels_of}
use Rattle.dnw_name_form.proofs.Wires.{labels_of_form}
use Rattle.dnw_name.proofs.name_ref.NameRef.gathered.Goals as goal
use Rattle.dnw_name.proofs.name_ref.NameRef.gathered.Goals.{After-from_array}

abbrev qualified : List (List ℕ) → NameValue
qualified ls = record { is_fqdn = true; labels = ls }

pub fill-requires : goal.fill-requires
fill-requires c = omega (arith, c.encoded_len-size.ensures.labels.fit)

form : (c : After-from_array) → IsWire c.from_array.result × (labels_of c.from_array.result ≡ c.args.self.now)
form c =
    labels_of_form _ _ (c.from_array.ensures
    ∙ wire_taken c.args.self.now c.encoded_len-size.result _ c.fill.new.out c.encoded_len-size.ensures.size c.fill.ensures)
    c.encoded_len-size.ensures.labels

pub from_wire-requires : goal.from_wire-requires
from_wire-requires c = (form c).0

pub returns : goal.returns
returns c = c.qualified.ensures ∙ ap qualified (c.from_wire.ensures ∙ (form (goal.at.returns c).After-from_array).1)

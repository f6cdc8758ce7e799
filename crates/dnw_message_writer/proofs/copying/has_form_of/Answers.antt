use Rattle.std.proofs.Common.{◌≡◌, ℕ, List, sym, ap, ◌∙◌}
use Rattle.dnw_base.specs.Names.{AreLabels, wire}
use Rattle.dnw_name_form.proofs.Wires.{labels_of_form}
use Rattle.dnw_name_form.specs.Inside.WireBytes.{labels_of}
use Rattle.dnw_message_writer.proofs.copying.has_form_of.Goals as goal

same_labels : (ls ms : List (List ℕ)) (a b : List ℕ) → AreLabels ls → AreLabels ms → a ≡ wire ls → b ≡ wire ms → a ≡ b → ls ≡ ms
same_labels ls ms a b are others one two same = sym (labels_of_form a ls one are).1 ∙ (ap labels_of same ∙ (labels_of_form b ms two others).1)

pub returns : goal.returns
returns c = λ yes.
    sym c.in-Some.ensures
    ∙ (same_labels _ _ _ _ c.as_wire.ensures.labels c.as_wire-2.ensures.labels c.as_wire.ensures.form c.as_wire-2.ensures.form (c.are_same.ensures yes)
    ∙ c.in-Some-labels_in_place.ensures)

-- What is written is the wire form of `*` and the other labels.
use Rattle.std.proofs.Common.{◌≡◌, ℕ, List, ◌∷◌, length, drop, refl, sym, ap, ◌∙◌, arith}
use Rattle.dnw_base.specs.Labels.{wildcard}
use Rattle.dnw_base.proofs.Wires.{encoded_size_cons, length_wire}
use Rattle.dnw_name_form.specs.Inside.WireBytes.{IsWire, labels_of}
use Rattle.dnw_name_form.proofs.Wires.{AreLabels_wildcard, labels_of_form}
use Rattle.dnw_name_form.proofs.form.WireForm.to_wildcard.Goals as goal
use Rattle.dnw_name_form.proofs.form.WireForm.to_wildcard.Goals.{After-extend}

pub extend-requires : goal.extend-requires
extend-requires c =
    let are = AreLabels_wildcard _ _ _ (sym c.labels-labels.ensures.labels ∙ c.in_ok-next.ensures.steps) c.labels-labels.ensures.names in
    let begun = simp (c.push.ensures, c.new-bytes.ensures) at c.push-2.ensures in
    omega (arith, ap length begun, ap length c.as_wire.ensures.form, length_wire c.next.new.self, encoded_size_cons wildcard c.next.new.self, are.fit)

written : (c : After-extend) → IsWire c.extend.new.self × (labels_of c.extend.new.self ≡ wildcard ∷ c.next.new.self)
written c =
    let are = AreLabels_wildcard _ _ _ (sym c.labels-labels.ensures.labels ∙ c.in_ok-next.ensures.steps) c.labels-labels.ensures.names in
    labels_of_form _ (wildcard ∷ c.next.new.self)
    (rw (c.extend.ensures, c.push-2.ensures, c.push.ensures, c.new-bytes.ensures, c.as_wire.ensures.form) refl) are

pub from_wire-requires : goal.from_wire-requires
from_wire-requires c = (written c).0

pub returns : goal.returns
returns c =
    let split = sym c.labels-labels.ensures.labels ∙ c.in_ok-next.ensures.steps in (
      λ none. let clash = sym none ∙ split in absurd cc,
      c.from_wire.ensures ∙ (written (goal.at.returns c).After-extend).1 ∙ ap (λ (ls : List (List ℕ)). wildcard ∷ drop 1 ls) (sym split),
    )

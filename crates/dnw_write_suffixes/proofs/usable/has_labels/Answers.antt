-- Each element tells whether the labels that are left can be read on.
use Rattle.std.proofs.Common.{◌≡◌, Some, length, refl, rules, sym, ◌∙◌, eqb-true}
use Rattle.std.proofs.lemmas.List.{nil_from_length}
use Rattle.dnw_write_suffixes.proofs.Matching.{along_start, along-stops, along-end, along-label, along-pointer}
use Rattle.dnw_write_suffixes.proofs.usable.has_labels.Goals as goal

pub elements-init : goal.elements-init
elements-init c = along_start c.args.message.now c.args.start c.args.labels c.requires

pub returns-in_default : goal.returns-in_default
returns-in_default c = (
  λ no. absurd cc,
  λ has. absurd
      (along-stops c.elements.invariant (c.in_default.ensures.err 1 (Some c.elements.limit) c.elements-test.true) has),
)

pub returns-in-End : goal.returns-in-End
returns-in-End c =
    let both = along-end c.elements.invariant c.elements-test.true (rw c.in-End.is at c.in-Ok.ensures.ok) in
    let count : c.len.result ≡ length c.elements.labels = search rules in (
      λ yes. both.1 (nil_from_length c.elements.labels (sym count ∙ eqb-true _ 0 yes)),
      λ has. rw (count, both.0 has) refl,
    )

pub elements-preserved-in-Label : goal.elements-preserved-in-Label
elements-preserved-in-Label c =
    along-label c.elements.invariant c.elements-test.true c.in-Label.len
    (rw c.in-Label.is at c.in-Ok.ensures.ok) c.takes_label.new.labels
    (c.takes_label.ensures.label.0 (search (rules, c.if-not-takes_label.false)))

pub elements-preserved : goal.elements-preserved
elements-preserved c = along-pointer c.elements.invariant c.elements-test.true c.in-Pointer.target
    (rw c.in-Pointer.is at c.in-Ok.ensures.ok)

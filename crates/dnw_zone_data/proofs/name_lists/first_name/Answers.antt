use Rattle.std.proofs.Common.{◌≡◌, ◌++◌, List, ℕ, length, take, refl, sym, ap, ◌∙◌, subst, arith, length-append}
use Rattle.std.proofs.lemmas.List.{take-append-drop, take_at}
use Rattle.dnw_base.specs.Names.{AreLabels, wire}
use Rattle.dnw_zone_data.proofs.NameFronts.{past, reads_first}
use Rattle.dnw_zone_data.proofs.name_lists.first_name.Goals as goal

pub returns-in_default : goal.returns-in_default
returns-in_default c =
    λ labels rest are e. (c.in_default.ensures.accepts (past c.args.octets.now labels) labels 0 (reads_first c.args.octets.now labels rest c.new-reader.result c.new-reader.ensures are e)).0

pub returns-in_default-split_at_checked : goal.returns-in_default-split_at_checked
returns-in_default-split_at_checked c =
    λ labels rest are e.
    let octets : List ℕ = c.args.octets.now in
    let same = (c.in-Ok.ensures.accepts (past octets labels) labels 0 (reads_first octets labels rest c.new-reader.result c.new-reader.ensures are e)).0 in
    let form : c.as_wire-form.result.now ≡ wire labels = c.as_wire-form.ensures.form ∙ ap wire (c.wire_labels.ensures ∙ same) in
    omega (arith, c.in_default-split_at_checked.ensures.cases, ap length form, ap length e, length-append (wire labels) rest)

pub returns-then-not-is_same : goal.returns-then-not-is_same
returns-then-not-is_same c =
    λ labels rest are e.
    let octets : List ℕ = c.args.octets.now in
    let parts = c.in-Some.ensures.cases in
    let same = (c.in-Ok.ensures.accepts (past octets labels) labels 0 (reads_first octets labels rest c.new-reader.result c.new-reader.ensures are e)).0 in
    let form : c.as_wire-form.result.now ≡ wire labels = c.as_wire-form.ensures.form ∙ ap wire (c.wire_labels.ensures ∙ same) in
    let n = length c.as_wire-form.result.now in
    let head : c.in-Some.head.now ≡ c.as_wire-form.result.now = parts.1 ∙ ap (take n) e ∙ take_at (wire labels) rest n (sym (ap length form)) ∙ sym form in
    let other = rw c.if-not-is_same.true at c.is_same.ensures in other head

pub returns : goal.returns
returns c =
    let octets : List ℕ = c.args.octets.now in
    let parts = c.in-Some.ensures.cases in
    let n = length c.as_wire-form.result.now in
    let whole : octets ≡ c.in-Some.head.now ++ c.in-Some.rest.now = sym (take-append-drop n octets) ∙ rw (parts.1, parts.2) refl in
    let head = rw c.if-not-is_same.false at c.is_same.ensures in (
      subst AreLabels c.wire_labels.ensures c.as_wire-form.ensures.labels,
      whole ∙ ap (λ (xs : List ℕ). xs ++ c.in-Some.rest.now) (head ∙ c.as_wire-form.ensures.form ∙ ap wire c.wire_labels.ensures),
    )

use Rattle.std.proofs.Common.{◌≡◌, ◌++◌, List, ℕ, length, drop, refl, sym, ap, ◌∙◌, subst, arith}
use Rattle.dnw_base.specs.Names.{AreLabels, wire}
use Rattle.dnw_name_form.proofs.Wires.{labels_of_form}
use Rattle.dnw_message_writer.proofs.WholeNames.{passing_end, passing_fault, passing_next}
use Rattle.dnw_message_writer.proofs.data.whole_name.Goals as goal

pub new-requires : goal.new-requires
new-requires c =
    let (ls, are, form, split, size) = passing_end c.args.octets.now c.labels.at c.labels-test.true c.if-at-lt-MAX_NAME.true (sym c.if-len-eq0.true) c.labels.invariant in
    (labels_of_form _ ls form are).0

pub returns-then-len-eq0-clause-some : goal.returns-then-len-eq0-clause-some
returns-then-len-eq0-clause-some c =
    let octets = c.args.octets.now in
    let (ls, are, form, split, size) = passing_end octets c.labels.at c.labels-test.true c.if-at-lt-MAX_NAME.true (sym c.if-len-eq0.true) c.labels.invariant in
    let same : c.new.result ≡ ls = c.new.ensures ∙ (labels_of_form _ ls form are).1 in
    subst (λ (x : List (List ℕ)). AreLabels x × (octets ≡ wire x ++ drop (length (wire x)) octets)) (sym same)
    (are, split ∙ ap (λ n. wire ls ++ drop n octets) (sym size))

pub returns-then-len-gt-MAX_LABEL-clause-none : goal.returns-then-len-gt-MAX_LABEL-clause-none
returns-then-len-gt-MAX_LABEL-clause-none c =
    passing_fault c.args.octets.now c.labels.at _ c.labels-test.true refl c.if-len-gt-MAX_LABEL.true c.labels.invariant

pub labels-preserved : goal.labels-preserved
labels-preserved c =
    passing_next c.args.octets.now c.labels.at _ c.labels-test.true refl c.if-len-eq0.false (omega (arith, c.if-len-gt-MAX_LABEL.false)) c.labels.invariant

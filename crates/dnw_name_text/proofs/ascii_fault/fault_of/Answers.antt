use Rattle.std.proofs.Common.{eqb-true, eq-eqb, sym, ◌∙◌}
use Rattle.std.specs.Str.{chars}
use Rattle.std.proofs.lemmas.Bool.{both_ways}
use Rattle.dnw_name_text.proofs.Wrong.{lone_dot, dotted, no_dot, any_outcome}
use Rattle.dnw_name_text.proofs.ascii_fault.fault_of.Goals as goal

pub returns-then-not-begins_with_dot : goal.returns-then-not-begins_with_dot
returns-then-not-begins_with_dot c =
    any_outcome (chars c.args.text.now) _ (no_dot c.args.text.now c.utf8.text (λ e. both_ways c.begins_with_dot.result c.if-not-begins_with_dot.true (c.begins_with_dot.ensures ∙ eq-eqb _ _ e)))
    c.first_fault.ensures

pub returns-then-text-eq1 : goal.returns-then-text-eq1
returns-then-text-eq1 c = lone_dot c.args.text.now c.if-text-eq1.true (eqb-true _ _ (sym c.begins_with_dot.ensures ∙ c.if-not-begins_with_dot.false))

pub returns : goal.returns
returns c =
    let first = eqb-true _ _ (sym c.begins_with_dot.ensures ∙ c.if-not-begins_with_dot.false) in
    dotted c.args.text.now c.utf8.text c.if-text-eq1.false first

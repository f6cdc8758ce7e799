-- The end of the characters finishes a name after a dot or a label, and is an error inside an escape.
use Rattle.std.proofs.Common.{refl, sym, ◌∙◌}
use Rattle.std.proofs.lemmas.Bool.{eqb-true}
use Rattle.std.proofs.lemmas.Result.{err_from_is_err_and}
use Rattle.dnw_name_text.specs.Inside.TextReader.{name_from}
use Rattle.dnw_name_form.proofs.EditLemmas.{FailsOr_bind}
use Rattle.dnw_name_text.proofs.TextReading.{at_end, at_last}
use Rattle.dnw_name_text.proofs.ascii.TextReader.finish.Goals as goal

pub returns-then-is_empty : goal.returns-then-is_empty
unfolding name_from
returns-then-is_empty c =
    record { follows = rw c.in-Outside.is (at_end _ _ (eqb-true _ 0 (sym c.is_empty.ensures ∙ c.if-is_empty.true))) }

pub returns-in_err-add_label : goal.returns-in_err-add_label
unfolding name_from
returns-in_err-add_label c =
    let p = err_from_is_err_and c.from_residual.result c.from_residual.ensures.1 in
    rw (p.1, p.2, c.in-Outside.is, at_last c.args.self.form c.args.self.label (sym c.is_empty.ensures ∙ c.if-is_empty.false)) (record { follows = FailsOr_bind _ _ _ c.in_err-add_label.ensures.updates.0 })

pub returns : goal.returns
unfolding name_from
returns c =
    rw (c.in-Outside.is, at_last c.args.self.form c.args.self.label (sym c.is_empty.ensures ∙ c.if-is_empty.false), c.in_ok-add_label.ensures.updates) (record { follows = refl })

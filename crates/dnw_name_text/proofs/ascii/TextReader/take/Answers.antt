-- Each move leads to what reading gives at the character, and each stop fails by its fault.
use Rattle.std.proofs.Common.{[], ap, sym, ◌∙◌}
use Rattle.std.proofs.lemmas.Result.{err_from_is_err_and}
use Rattle.dnw_base.specs.Fault.{◌>>=◌}
use Rattle.dnw_name_text.specs.AsciiText.{Outside, elements, name_from_elements}
use Rattle.dnw_name_text.specs.Inside.TextReader.{name_from, name_from_rest}
use Rattle.dnw_name_text.specs.declared.ascii.Move.TheVariants.{Enter, Char, Dot, Unrecognized, Illegal}
use Rattle.dnw_name_form.proofs.EditLemmas.{FailsOr_bind}
use Rattle.dnw_name_text.proofs.TextReading.{at_move, name_from_elements_alike}
use Rattle.dnw_name_text.proofs.ascii.TextReader.take.Goals as goal
use Rattle.dnw_name_text.proofs.ascii.TextReader.take.Goals.{in-Enter, in-Char, in-Dot+in_ok-add_label-in-Dot}

pub returns-in_err-add_label-in-Dot-clause-err : goal.returns-in_err-add_label-in-Dot-clause-err
returns-in_err-add_label-in-Dot-clause-err c =
    let p = err_from_is_err_and c.from_residual.result c.from_residual.ensures.1 in
    rw (p.1, p.2) (λ cs. rw (at_move c.args.self.now Dot c.args.c cs (c.in-Dot.ensures.elements cs)) (FailsOr_bind _ _ _ c.in_err-add_label-in-Dot.ensures.updates.0))

pub returns-in-Unrecognized-clause-err : goal.returns-in-Unrecognized-clause-err
returns-in-Unrecognized-clause-err c = λ cs. rw (at_move c.args.self.now Unrecognized c.args.c cs (c.in-Unrecognized.ensures.elements cs)) c.unrecognized.ensures

pub returns-in-Illegal-clause-err : goal.returns-in-Illegal-clause-err
returns-in-Illegal-clause-err c = λ cs. rw (at_move c.args.self.now Illegal c.args.c cs (c.in-Illegal.ensures.elements cs)) c.illegal.ensures

pub returns-clause-ok : goal.returns-clause-ok
unfolding name_from name_from_rest
returns-clause-ok c = λ cs.
    let r = c.args.self.now in
    elim c.match-step.branch [
      | in-Enter w ↦ rw w.self-is (sym (at_move r (Enter w.in-Enter.state) c.args.c cs (w.in-Enter.ensures.elements cs)))
      | in-Char w ↦
          rw w.self-is
          (name_from_elements_alike (elements Outside cs) _ _ _ w.push.ensures.alike ∙ sym (at_move r (Char w.in-Char.char) c.args.c cs (w.in-Char.ensures.elements cs)))
      | in-Dot+in_ok-add_label-in-Dot w ↦
          rw (w.self-is, w.new-self.ensures)
          (sym (at_move r Dot c.args.c cs (w.in-Dot.ensures.elements cs)
          ∙ ap (λ r. r >>= (λ longer. name_from_elements longer [] (elements Outside cs))) w.in_ok-add_label-in-Dot.ensures.updates))
    ]

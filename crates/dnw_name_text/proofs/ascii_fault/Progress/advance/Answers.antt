use Rattle.std.proofs.lemmas.Result.{err_from_is_err_and}
use Rattle.dnw_name_text.specs.AsciiText.{Char, Dot}
use Rattle.dnw_name_text.proofs.Wrong.{reads_on, breaks, stops}
use Rattle.dnw_name_text.proofs.ascii_fault.Progress.advance.Goals as goal

pub returns-in_err-end_label-in-Dot-clause-err : goal.returns-in_err-end_label-in-Dot-clause-err
returns-in_err-end_label-in-Dot-clause-err c =
    let p = err_from_is_err_and c.from_residual.result c.from_residual.ensures.1 in
    rw (p.1, p.2) (λ ls label h. breaks _ _ _ Dot _ c.in-Dot.ensures c.in_err-end_label-in-Dot.ensures.err ls label h)

pub returns-in_err-push-in-Char-clause-err : goal.returns-in_err-push-in-Char-clause-err
returns-in_err-push-in-Char-clause-err c =
    let p = err_from_is_err_and c.from_residual-in_err-push-in-Char.result c.from_residual-in_err-push-in-Char.ensures.1 in
    rw (p.1, p.2) (λ ls label h. breaks _ _ _ (Char c.in-Char.c) _ c.in-Char.ensures c.in_err-push-in-Char.ensures.err ls label h)

pub returns-in_ok-end_label-in-Dot-clause-ok : goal.returns-in_ok-end_label-in-Dot-clause-ok
returns-in_ok-end_label-in-Dot-clause-ok c = reads_on _ _ _ _ Dot c.in-Dot.ensures c.in_ok-end_label-in-Dot.ensures.ok

pub returns-in_ok-push-in-Char-clause-ok : goal.returns-in_ok-push-in-Char-clause-ok
returns-in_ok-push-in-Char-clause-ok c = reads_on _ _ _ _ (Char c.in-Char.c) c.in-Char.ensures c.in_ok-push-in-Char.ensures.ok

pub returns-in-Stop-clause-err : goal.returns-in-Stop-clause-err
returns-in-Stop-clause-err c = λ ls label h. stops _ _ c.in-Stop.ensures ls label

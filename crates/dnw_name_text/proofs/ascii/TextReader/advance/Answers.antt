-- A simple label and its dot are added whole.
use Rattle.std.proofs.Common.{[], drop, sym, ap, ◌+◌, ◌∙◌, arith}
use Rattle.std.specs.Str.{chars}
use Rattle.std.proofs.lemmas.Result.{err_from_is_err_and}
use Rattle.dnw_base.specs.Fault.{◌>>=◌}
use Rattle.dnw_name_text.specs.AsciiText.{Outside}
use Rattle.dnw_name_text.specs.Inside.TextReader.{name_from, name_from_rest}
use Rattle.dnw_name_form.proofs.EditLemmas.{FailsOr_any, FailsOr_bind}
use Rattle.dnw_name_text.proofs.ascii.TextReader.advance.Goals as goal

pub returns-in_err-push-clause-err : goal.returns-in_err-push-clause-err
unfolding name_from
returns-in_err-push-clause-err c =
    let (label, state) = c.whole_label_len-len.ensures.fresh (omega (arith, c.if-len-eq0.false)) in
    let read = (c.whole_label_len-len.ensures.label (omega (arith, c.if-len-eq0.false))).read c.args.self.now.form in
    let fails = rw c.as_bytes.ensures.value at c.in_err-push.ensures.updates in
    let p = err_from_is_err_and c.from_residual.result c.from_residual.ensures.1 in
    rw (p.1, p.2, label, state, read) (FailsOr_bind _ _ _ (FailsOr_any _ _ fails.0))

pub returns-clause-ok : goal.returns-clause-ok
unfolding name_from
returns-clause-ok c =
    let (label, state) = c.whole_label_len-len.ensures.fresh (omega (arith, c.if-len-eq0.false)) in
    let read = (c.whole_label_len-len.ensures.label (omega (arith, c.if-len-eq0.false))).read c.args.self.now.form in
    let longer = rw c.as_bytes.ensures.value at c.in_ok-push.ensures.updates in
    rw (c.range_from.ensures.value, label, state) (sym (read ∙ ap (λ r. r >>= (λ ls. name_from_rest ls [] Outside (chars (drop (c.whole_label_len-len.result + 1) c.args.text.now)))) longer))

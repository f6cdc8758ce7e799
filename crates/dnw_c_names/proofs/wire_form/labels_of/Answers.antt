-- A form is read as its labels.
use Rattle.std.proofs.Common.{length, sym, subst}
use Rattle.dnw_name_read.specs.Reading.{NameAt}
use Rattle.dnw_c_names.proofs.Forms.{form_name}
use Rattle.dnw_c_names.proofs.wire_form.labels_of.Goals as goal

pub returns-in-Some-clause-ok : goal.returns-in-Some-clause-ok
returns-in-Some-clause-ok c =
    let form = c.args.form.now in
    (0, subst (λ ls. NameAt form 0 ls (length form) 0) (sym c.new.ensures) (form_name form c.in-Some.ensures.wire))

use Rattle.std.proofs.Common.{inl, inr}
use Rattle.dnw_name_form.specs.Edits.{prepend_label}
use Rattle.dnw_name_form.specs.LabelText.{label_from_bytes}
use Rattle.dnw_c_base.proofs.Exits.{refused}
use Rattle.dnw_c_names.specs.NameEdits.{FailsEdit}
use Rattle.dnw_c_names.proofs.TextFaults.{edit_failed}
use Rattle.dnw_c_names.proofs.edits.prepend.Goals as goal

pub returns-in_err-prepend_label : goal.returns-in_err-prepend_label
returns-in_err-prepend_label c =
    let n = c.in_ok-name.name in
    let edit = prepend_label n (label_from_bytes c.args.label.now) in
    let exit = c.from_residual-in_err-prepend_label in
    let fails = edit_failed edit _ c.in_err-prepend_label.ensures.follows in
    inl (n, c.in_ok-name.ensures.ok, inr (refused (FailsEdit edit) c.args.form.now exit.result _ exit.ensures.1 fails))

use Rattle.std.proofs.Common.{inl, inr}
use Rattle.dnw_name_form.specs.Edits.{append_name}
use Rattle.dnw_c_base.proofs.Exits.{refused}
use Rattle.dnw_c_names.specs.NameCalls.{FailsAsForms}
use Rattle.dnw_c_names.specs.NameEdits.{FailsEdit}
use Rattle.dnw_c_names.proofs.TextFaults.{edit_failed}
use Rattle.dnw_c_names.proofs.edits.append.Goals as goal

pub returns-in_err-name : goal.returns-in_err-name
returns-in_err-name c =
    inr (refused (FailsAsForms c.args.name.now c.args.suffix.now) c.args.form.now c.from_residual.result _ c.from_residual.ensures.1 c.in_err-name.ensures.err)

pub returns-in_err-append_name : goal.returns-in_err-append_name
returns-in_err-append_name c =
    let n = c.in_ok-name.name in
    let m = c.in_ok-name.suffix in
    let (here, there, name, suffix) = c.in_ok-name.ensures.ok in
    let exit = c.from_residual-in_err-append_name in
    let fails = edit_failed (append_name n m) _ c.in_err-append_name.ensures.follows in
    inl (n, m, (here, name), (there, suffix), inr (refused (FailsEdit (append_name n m)) c.args.form.now exit.result _ exit.ensures.1 fails))

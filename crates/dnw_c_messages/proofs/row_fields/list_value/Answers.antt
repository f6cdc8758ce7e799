use Rattle.std.proofs.Common.{◌++◌, sym, subst}
use Rattle.std.proofs.lemmas.Result.{IfErr-weaker, on_ok_weaker}
use Rattle.dnw_c_messages.specs.Inside.Sheets.{Goes, HaltsOn, sheet}
use Rattle.dnw_c_messages.proofs.Steps.{goes_before, goes_none, halts_before}
use Rattle.dnw_c_messages.proofs.row_fields.list_value.Goals as goal

pub returns-in-Some-clause-ok : goal.returns-in-Some-clause-ok
returns-in-Some-clause-ok c =
    on_ok_weaker c.list_entries.result
    (λ h names few b p more. subst
    (λ ts. Goes b (ts ++ more) p (sheet c.args.rows.now names c.args.at.now) more p (sheet c.list_entries.new.rows names c.list_entries.new.at))
    (sym (c.in-Some.ensures c.args.end)) (goes_before (h names few b p) more)) c.list_entries.ensures.ok

pub returns-in-Some-clause-err : goal.returns-in-Some-clause-err
returns-in-Some-clause-err c =
    IfErr-weaker c.list_entries.result _ _
    (λ failure h names few b p more. subst (λ ts. HaltsOn b (ts ++ more) p (sheet c.args.rows.now names c.args.at.now) failure)
    (sym (c.in-Some.ensures c.args.end)) (halts_before (h names few b p) more)) c.list_entries.ensures.err

pub returns-in-None-clause-ok : goal.returns-in-None-clause-ok
returns-in-None-clause-ok c =
    λ names few b p more.
    let s = sheet c.args.rows.now names c.args.at.now in
    subst (λ ts. Goes b (ts ++ more) p s more p s) (sym (c.in-None.ensures c.args.end))
    (goes_none b more p s (record { rows = c.requires.fits; names = few }))

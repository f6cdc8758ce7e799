use Rattle.std.proofs.lemmas.Result.{IfErr-weaker, on_ok_weaker}
use Rattle.dnw_c_base.proofs.Exits.{exits}
use Rattle.dnw_message_read.specs.declared.error.Section.TheVariants.{Queries}
use Rattle.dnw_c_messages.proofs.ItemSteps.{name_stops, question_goes, question_halts, rest_lacks}
use Rattle.dnw_c_messages.specs.Inside.Sheets.{sheet}
use Rattle.dnw_c_messages.proofs.table.list_question.Goals as goal

pub returns-in_err-name-clause-err : goal.returns-in_err-name-clause-err
returns-in_err-name-clause-err c =
    exits _ c.from_residual.result _ c.from_residual.ensures.1
    (name_stops Queries c.args.reader.now (sheet c.args.rows.now c.args.names.now c.args.at.now) c.in_err-name.field-0.0 _ _ c.in_err-name.ensures.err)

pub returns-in_err-row-clause-err : goal.returns-in_err-row-clause-err
returns-in_err-row-clause-err c =
    let (missing, is) = c.in_err-row.ensures.err in
    exits _ c.from_residual-in_err-row.result _ c.from_residual-in_err-row.ensures.1
    (rest_lacks Queries c.args.reader.now c.read_counted.new.decoder c.in_ok-name.name _ (sheet c.args.rows.now c.args.names.now c.args.at.now)
    c.in_err-row.field-0.0 c.in_ok-name.ensures.ok.0 missing is)

pub returns-clause-ok : goal.returns-clause-ok
returns-clause-ok c =
    let (room, moved, is) = c.in_ok-row.ensures.ok in
    on_ok_weaker c.list_name.result
    (question_goes c.args.reader.now c.read_counted.new.decoder c.read_question.new.reader c.in_ok-name.name _ c.in_ok-row.row
    (sheet c.args.rows.now c.args.names.now c.args.at.now) c.in_ok-name.ensures.ok.0 room moved is
    (sheet c.list_name.new.rows c.list_name.new.names c.list_name.new.at)) c.list_name.ensures.ok

pub returns-clause-err : goal.returns-clause-err
returns-clause-err c =
    let (room, moved, is) = c.in_ok-row.ensures.ok in
    IfErr-weaker c.list_name.result _ _
    (question_halts c.args.reader.now c.read_counted.new.decoder c.read_question.new.reader c.in_ok-name.name _ c.in_ok-row.row
    (sheet c.args.rows.now c.args.names.now c.args.at.now) c.in_ok-name.ensures.ok.0 room moved is) c.list_name.ensures.err

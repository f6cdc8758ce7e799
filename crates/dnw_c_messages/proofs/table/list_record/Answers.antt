use Rattle.std.proofs.lemmas.Result.{IfErr-weaker, on_ok_weaker}
use Rattle.dnw_c_base.proofs.Exits.{exits}
use Rattle.dnw_c_messages.specs.Inside.Sheets.{sheet}
use Rattle.dnw_c_messages.proofs.ItemSteps.{fields_halt, name_stops, other_rest, record_goes, record_halts, rest_lacks}
use Rattle.dnw_c_messages.proofs.table.list_record.Goals as goal

pub returns-in_err-name-clause-err : goal.returns-in_err-name-clause-err
returns-in_err-name-clause-err c =
    exits _ c.from_residual.result _ c.from_residual.ensures.1
    (name_stops c.args.section c.args.reader.now (sheet c.args.rows.now c.args.names.now c.args.at.now) c.in_err-name.field-0.0 _ _ c.in_err-name.ensures.err)

pub returns-in_err-row-clause-err : goal.returns-in_err-row-clause-err
returns-in_err-row-clause-err c =
    let (missing, is) = c.in_err-row.ensures.err in
    exits _ c.from_residual-in_err-row.result _ c.from_residual-in_err-row.ensures.1
    (rest_lacks c.args.section c.args.reader.now c.read_counted.new.decoder c.in_ok-name.name _ (sheet c.args.rows.now c.args.names.now c.args.at.now)
    c.in_err-row.field-0.0 c.in_ok-name.ensures.ok.0 (rw (other_rest c.args.section c.requires.other) missing) is)

pub returns-in_err-list_name-clause-err : goal.returns-in_err-list_name-clause-err
returns-in_err-list_name-clause-err c =
    let (room, moved, is) = c.in_ok-row.ensures.ok in
    exits _ c.from_residual-in_err-list_name.result _ c.from_residual-in_err-list_name.ensures.1
    (record_halts c.args.section c.args.reader.now c.read_counted.new.decoder c.read_record.new.reader c.in_ok-name.name _ c.in_ok-row.row
    (sheet c.args.rows.now c.args.names.now c.args.at.now) c.requires.other c.in_ok-name.ensures.ok.0 room moved is c.in_err-list_name.field-0.0
    c.in_err-list_name.ensures.err)

pub returns-clause-ok : goal.returns-clause-ok
returns-clause-ok c =
    let (room, moved, is) = c.in_ok-row.ensures.ok in
    on_ok_weaker c.list_fields.result
    (record_goes c.args.section c.args.reader.now c.read_counted.new.decoder c.read_record.new.reader c.in_ok-name.name _ c.in_ok-row.row
    (sheet c.args.rows.now c.args.names.now c.args.at.now) c.requires.other c.in_ok-name.ensures.ok.0 room moved is c.message-octets.result.now
    c.data_of-own.result c.kinds_of.result.now c.message-octets.ensures c.data_of-own.ensures c.kinds_of.ensures
    (sheet c.list_name.new.rows c.list_name.new.names c.list_name.new.at) (sheet c.list_fields.new.rows c.list_fields.new.names c.list_fields.new.at)
    c.in_ok-list_name.ensures.ok) c.list_fields.ensures.ok

pub returns-clause-err : goal.returns-clause-err
returns-clause-err c =
    let (room, moved, is) = c.in_ok-row.ensures.ok in
    IfErr-weaker c.list_fields.result _ _
    (λ failure. fields_halt c.args.section c.args.reader.now c.read_counted.new.decoder c.read_record.new.reader c.in_ok-name.name _ c.in_ok-row.row
    (sheet c.args.rows.now c.args.names.now c.args.at.now) c.requires.other c.in_ok-name.ensures.ok.0 room moved is c.message-octets.result.now
    c.data_of-own.result c.kinds_of.result.now c.message-octets.ensures c.data_of-own.ensures c.kinds_of.ensures
    (sheet c.list_name.new.rows c.list_name.new.names c.list_name.new.at) failure c.in_ok-list_name.ensures.ok) c.list_fields.ensures.err

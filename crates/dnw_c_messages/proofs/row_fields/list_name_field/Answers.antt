use Rattle.dnw_c_base.proofs.Exits.{exits}
use Rattle.dnw_c_messages.proofs.FieldSteps.{fault_goes, fault_halts, name_failed, name_goes, name_halts, name_onward}
use Rattle.dnw_c_messages.proofs.row_fields.list_name_field.Goals as goal

pub returns-in_err-list_fault-in-Err-clause-err : goal.returns-in_err-list_fault-in-Err-clause-err
returns-in_err-list_fault-in-Err-clause-err c =
    let (error, fails, is) = c.in-Err.ensures.err in
    let d = c.args.reader.now in
    exits _ c.from_residual.result _ c.from_residual.ensures.1
    (fault_halts c.args.kind d c.args.rows.now c.args.names.now c.args.at.now c.in-Err.why c.in_err-list_fault-in-Err.field-0.0
    (error, name_failed c.args.kind d error c.requires.name fails, is) c.in_err-list_fault-in-Err.ensures.err)

pub returns-in-Err-clause-ok : goal.returns-in-Err-clause-ok
returns-in-Err-clause-ok c =
    let (error, fails, is) = c.in-Err.ensures.err in
    let d = c.args.reader.now in
    fault_goes c.args.kind d c.args.rows.now c.list_fault.new.rows c.args.names.now c.args.at.now c.list_fault.new.at c.in-Err.why
    (error, name_failed c.args.kind d error c.requires.name fails, is) c.requires.fits (rw c.in-Err.ensures.same at c.in_ok-list_fault-in-Err.ensures.ok)

pub field_row-row-requires : goal.field_row-row-requires
field_row-row-requires c =
    name_onward c.args.kind c.args.reader.now c.read_name.new.reader c.in-Ok.name _ _ _ c.requires.name c.in-Ok.ensures.ok c.index-start.ensures.index
    c.index.ensures.index

pub returns-in_err-list_name-clause-err : goal.returns-in_err-list_name-clause-err
returns-in_err-list_name-clause-err c =
    exits _ c.from_residual-in_err-list_name.result _ c.from_residual-in_err-list_name.ensures.1
    (name_halts c.args.kind c.args.reader.now c.read_name.new.reader c.in-Ok.name _ _ _ c.field_row-row.result _ c.requires.name c.in-Ok.ensures.ok
    c.field_row-row.ensures c.index-start.ensures.index c.index.ensures.index c.in_err-list_name.field-0.0 c.in_err-list_name.ensures.err)

pub returns-clause-ok : goal.returns-clause-ok
returns-clause-ok c =
    name_goes c.args.kind c.args.reader.now c.read_name.new.reader c.in-Ok.name _ _ _ c.field_row-row.result _ c.requires.name c.in-Ok.ensures.ok
    c.field_row-row.ensures c.index-start.ensures.index c.index.ensures.index _ c.in_ok-list_name.ensures.ok

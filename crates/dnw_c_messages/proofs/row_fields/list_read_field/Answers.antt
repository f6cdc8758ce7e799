use Rattle.std.proofs.Common.{◌∷◌, []}
use Rattle.dnw_data.specs.Values.{seen}
use Rattle.dnw_c_base.proofs.Exits.{exits}
use Rattle.dnw_c_messages.specs.Listings.{fields}
use Rattle.dnw_c_messages.proofs.FieldSteps.{fault_goes, fault_halts, list_within, own_goes, own_halts, own_onward}
use Rattle.dnw_c_messages.proofs.Steps.{goes_both, goes_halts}
use Rattle.dnw_c_messages.proofs.row_fields.list_read_field.Goals as goal

pub returns-in_err-list_fault-in-Err-clause-err : goal.returns-in_err-list_fault-in-Err-clause-err
returns-in_err-list_fault-in-Err-clause-err c =
    exits _ c.from_residual.result _ c.from_residual.ensures.1
    (fault_halts c.args.kind c.args.reader.now c.args.rows.now c.args.names.now c.args.at.now c.in-Err.why c.in_err-list_fault-in-Err.field-0.0
    c.in-Err.ensures.err c.in_err-list_fault-in-Err.ensures.err)

pub returns-in-Err-clause-ok : goal.returns-in-Err-clause-ok
returns-in-Err-clause-ok c =
    fault_goes c.args.kind c.args.reader.now c.args.rows.now c.list_fault.new.rows c.args.names.now c.args.at.now c.list_fault.new.at c.in-Err.why
    c.in-Err.ensures.err c.requires.fits (rw c.in-Err.ensures.same at c.in_ok-list_fault-in-Err.ensures.ok)

pub field_row-requires : goal.field_row-requires
field_row-requires c =
    own_onward c.args.kind c.args.reader.now c.read_field.new.reader (seen c.in-Ok.field) _ _ c.in-Ok.ensures.ok c.index-start.ensures.index
    c.index-end.ensures.index

pub returns-in_err-list_row-clause-err : goal.returns-in_err-list_row-clause-err
returns-in_err-list_row-clause-err c =
    exits _ c.from_residual-in_err-list_row.result _ c.from_residual-in_err-list_row.ensures.1
    (own_halts c.args.kind c.args.reader.now c.read_field.new.reader (seen c.in-Ok.field) c.index-start.result c.index-end.result c.requires.own c.in-Ok.ensures.ok
    c.index-start.ensures.index c.index-end.ensures.index c.args.rows.now c.args.names.now c.args.at.now c.in_err-list_row.field-0.0
    c.in_err-list_row.ensures.err)

pub list_value-requires-clause-within : goal.list_value-requires-clause-within
list_value-requires-clause-within c =
    list_within c.args.kind c.args.reader.now c.read_field.new.reader (seen c.in-Ok.field) c.index-end.result c.requires.own c.in-Ok.ensures.ok
    c.index-end.ensures.index

pub returns-in_err-list_value-clause-err : goal.returns-in_err-list_value-clause-err
returns-in_err-list_value-clause-err c =
    exits _ c.from_residual-in_err-list_value.result _ c.from_residual-in_err-list_value.ensures.1
    (λ kinds b p.
    let row = own_goes c.args.kind c.args.reader.now c.read_field.new.reader (seen c.in-Ok.field) c.index-start.result c.index-end.result c.requires.own
    c.in-Ok.ensures.ok c.index-start.ensures.index c.index-end.ensures.index c.field_row.result c.args.rows.now c.list_row.new.rows c.args.names.now
    c.args.at.now c.list_row.new.at c.field_row.ensures c.requires.fits c.in_ok-list_row.ensures.ok kinds b p in
    goes_halts row (c.in_err-list_value.ensures.err c.args.names.now row.onward.fits.names b p (fields kinds c.read_field.new.reader ∷ [])))

pub returns-clause-ok : goal.returns-clause-ok
returns-clause-ok c =
    λ kinds b p.
    let row = own_goes c.args.kind c.args.reader.now c.read_field.new.reader (seen c.in-Ok.field) c.index-start.result c.index-end.result c.requires.own
    c.in-Ok.ensures.ok c.index-start.ensures.index c.index-end.ensures.index c.field_row.result c.args.rows.now c.list_row.new.rows c.args.names.now
    c.args.at.now c.list_row.new.at c.field_row.ensures c.requires.fits c.in_ok-list_row.ensures.ok kinds b p in
    goes_both row (c.in_ok-list_value.ensures.ok c.args.names.now row.onward.fits.names b p (fields kinds c.read_field.new.reader ∷ []))

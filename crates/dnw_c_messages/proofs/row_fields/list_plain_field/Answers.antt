use Rattle.std.proofs.Common.{refl, ap, arith}
use Rattle.dnw_base.specs.Decoder.{Decoder}
use Rattle.dnw_base.specs.declared.error.DecodeError.TheVariants.{InsufficientBytes}
use Rattle.dnw_c_base.proofs.Exits.{exits}
use Rattle.dnw_c_base.specs.declared.failure.Failure.TheVariants.{MessageCut}
use Rattle.dnw_c_messages.proofs.FieldSteps.{fault_goes, fault_halts, plain_goes, plain_halts}
use Rattle.dnw_c_messages.proofs.Taken.{plain_failed, plain_head}
use Rattle.dnw_c_messages.proofs.row_fields.list_plain_field.Goals as goal

pub returns-in_err-list_fault-clause-err : goal.returns-in_err-list_fault-clause-err
returns-in_err-list_fault-clause-err c =
    let d = c.args.reader.now in
    let fails = plain_failed c.args.kind d c.args.size c.requires.plain (λ left. absurd (omega (arith, c.len.ensures, c.if-len-size.true, left))) in
    exits _ c.from_residual.result _ c.from_residual.ensures.1
    (fault_halts c.args.kind d c.args.rows.now c.args.names.now c.args.at.now MessageCut c.in_err-list_fault.field-0.0 (InsufficientBytes, fails, refl)
    c.in_err-list_fault.ensures.err)

pub returns-then-len-size-clause-ok : goal.returns-then-len-size-clause-ok
returns-then-len-size-clause-ok c =
    let d = c.args.reader.now in
    let fails = plain_failed c.args.kind d c.args.size c.requires.plain (λ left. absurd (omega (arith, c.len.ensures, c.if-len-size.true, left))) in
    fault_goes c.args.kind d c.args.rows.now c.list_fault.new.rows c.args.names.now c.args.at.now c.list_fault.new.at MessageCut
    (InsufficientBytes, fails, refl) c.requires.fits c.in_ok-list_fault.ensures.ok

pub field_row-requires : goal.field_row-requires
field_row-requires c =
    let head = plain_head c.args.kind c.args.reader.now c.args.size c.requires.plain (omega (arith, c.len.ensures, c.if-len-size.false)) in
    let moved = ap (λ (x : Decoder). x.index) (rw c.unwrap.ensures at c.skip.ensures.takes).2 in
    omega (arith, head, moved, c.index-start.ensures.index, c.index.ensures.index)

pub returns-in_err-list_row-clause-err : goal.returns-in_err-list_row-clause-err
returns-in_err-list_row-clause-err c =
    exits _ c.from_residual-in_err-list_row.result _ c.from_residual-in_err-list_row.ensures.1
    (plain_halts c.args.kind c.args.reader.now c.args.size c.requires.plain (omega (arith, c.len.ensures, c.if-len-size.false))
    c.args.rows.now c.args.names.now c.args.at.now c.in_err-list_row.field-0.0 c.in_err-list_row.ensures.err)

pub returns-clause-ok : goal.returns-clause-ok
returns-clause-ok c =
    let d = c.args.reader.now in
    let moved = (rw c.unwrap.ensures at c.skip.ensures.takes).2 in
    plain_goes c.args.kind d c.skip.new.self c.args.size c.requires.plain (omega (arith, c.len.ensures, c.if-len-size.false)) moved
    c.index-start.result c.index.result c.index-start.ensures.index c.index.ensures.index c.field_row.result c.field_row.ensures c.args.rows.now c.list_row.new.rows c.args.names.now
    c.args.at.now c.list_row.new.at c.requires.fits c.in_ok-list_row.ensures.ok

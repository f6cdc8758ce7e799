use Rattle.std.proofs.Common.{length, ap, arith}
use Rattle.std.specs.Option.{option_copied}
use Rattle.dnw_zone_data.proofs.FieldLists.{field_missing, field_more}
use Rattle.dnw_zone_data.proofs.parsing.parse_fields.Goals as goal

pub returns-in-Err-Text-clause-err : goal.returns-in-Err-Text-clause-err
returns-in-Err-Text-clause-err c =
    field_missing (option_copied c.args.origin) c.args.place.count c.args.place.len c.args.forms.now c.args.kinds.now c.args.left.now c.args.out.now.items c.loop-kind.forms.now c.next_form-form.result.0 c.loop-kind.kinds.now
    c.in-Some.others.now c.in-Some.kind.now c.loop-kind.left.now c.after_spaces-start.result.now c.loop-kind.out.items _ c.loop-kind.invariant.0 c.in-Some.ensures.cases.0 c.after_spaces-start.ensures.rest c.next_form-form.ensures.first
    (rw (c.in-Err-Text.is, c.in-Err-Text.field-0-is) at c.parse_field.ensures.reads) c.not_wanted.ensures

pub loop-kind-preserved : goal.loop-kind-preserved
loop-kind-preserved c =
    let reads = rw c.in-Ok.is at c.parse_field.ensures.reads in (
      field_more (option_copied c.args.origin) c.args.place.count c.args.place.len c.args.forms.now c.args.kinds.now c.args.left.now c.args.out.now.items c.loop-kind.forms.now c.next_form-form.result.1.now c.next_form-form.result.0
          c.loop-kind.kinds.now c.in-Some.others.now c.in-Some.kind.now c.loop-kind.left.now c.after_spaces-start.result.now c.in-Ok.rest.now c.loop-kind.out.items c.parse_field.new.out.items c.loop-kind.invariant.0 c.in-Some.ensures.cases.0
          c.after_spaces-start.ensures.rest c.next_form-form.ensures.first c.next_form-form.ensures.others reads,
      omega (arith, ap length c.in-Some.ensures.cases.0, c.loop-kind.invariant.1),
      omega (arith, c.in-Ok.ensures.within, c.after_spaces-start.ensures.within, c.loop-kind.invariant.2),
    )

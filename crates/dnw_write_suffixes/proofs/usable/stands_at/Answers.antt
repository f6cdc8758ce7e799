-- The whole form is there, or the labels are there one by one.
use Rattle.std.proofs.Common.{◌+◌}
use Rattle.dnw_base.specs.Names.{encoded_size}
use Rattle.dnw_name_read.proofs.Back.{NameAt_form}
use Rattle.dnw_write_suffixes.proofs.usable.stands_at.Goals as goal

pub returns-then-has_form : goal.returns-then-has_form
returns-then-has_form c =
    let ls = c.args.labels in
    let (within, form) = c.has_form.ensures.0 c.if-has_form.true in
    let stands = NameAt_form c.args.message.now c.as_wire.result.now c.args.start ls within form
    c.as_wire.ensures.form c.as_wire.ensures.labels in
    (λ yes. (c.args.start + encoded_size ls, 0, stands), λ at. c.if-has_form.true)

use Rattle.std.proofs.Common.{◌≡◌, ◌∙◌, false, Some, ap, sym}
use Rattle.dnw_zone_file.specs.Generates.{made_data}
use Rattle.dnw_zone_file.specs.Templates.{made_text}
use Rattle.dnw_zone_file.proofs.Generated.{entry_is, made_is}
use Rattle.dnw_zone_file.proofs.generate.entry_for.Goals as goal

pub returns-clause-ok : goal.returns-clause-ok
returns-clause-ok c =
    let owner : made_text c.args.number false c.args.generate.owner.now ≡ Some c.as_slice.result.now =
    made_is _ _ _ c.new-owner.ensures.items c.in_default.ensures.ok ∙ ap Some (sym c.as_slice.ensures.value) in
    let own : made_data c.args.number c.args.generate.«data».now ≡ Some c.as_slice-2.result.now =
    made_is _ _ _ c.new-own.ensures.items c.in_default-put_made_data.ensures.ok ∙ ap Some (sym c.as_slice-2.ensures.value) in
    entry_is c.entry_with.result c.args.context.now c.args.generate c.args.number c.as_slice.result.now c.as_slice-2.result.now
    c.entry_with.new.context owner own c.entry_with.ensures.ok

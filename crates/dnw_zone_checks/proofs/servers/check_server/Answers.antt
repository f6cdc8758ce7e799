use Rattle.std.proofs.Common.{◌≡◌, Some, None, sym, ap, ◌∙◌, subst}
use Rattle.dnw_base.specs.Decoder.{Decoder}
use Rattle.dnw_base.specs.RecordTypes.{type_code}
use Rattle.dnw_zone_checks.specs.Checks.{IsNameAfter, server_offset}
use Rattle.dnw_zone_checks.proofs.Adding.{no_name, no_server}
use Rattle.dnw_zone_checks.proofs.servers.check_server.Goals as goal

pub returns-in_default : goal.returns-in_default
returns-in_default c =
    let none : server_offset (type_code c.args.record.now.record_type) ≡ None =
    ap server_offset (sym (c.from-code.ensures ∙ ap type_code c.record_type.ensures)) ∙ sym c.server_offset.ensures ∙ c.in_default.is in
    no_server c.args.zone.now.apex.now.labels c.args.zone.now.records.now c.args.number c.args.record.now c.args.found.now.items none

pub returns-in_default-name_after : goal.returns-in_default-name_after
returns-in_default-name_after c =
    let at : server_offset (type_code c.args.record.now.record_type) ≡ Some c.in-Some.offset =
    ap server_offset (sym (c.from-code.ensures ∙ ap type_code c.record_type.ensures)) ∙ sym c.server_offset.ensures ∙ c.in-Some.is in
    no_name c.args.zone.now.apex.now.labels c.args.zone.now.records.now c.args.number c.in-Some.offset c.args.record.now c.args.found.now.items at
    (λ name after. c.in_default-name_after.ensures.err name (subst (λ (d : Decoder). IsNameAfter d c.in-Some.offset name) (sym c.data_decoder-reader.ensures) after))

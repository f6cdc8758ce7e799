-- A name that is read up to the end would make the octets a form.
use Rattle.std.proofs.Common.{refl, inr, subst}
use Rattle.dnw_base.specs.Decoder.{Decoder}
use Rattle.dnw_name_read.specs.Reading.{NameAt}
use Rattle.dnw_c_names.proofs.Forms.{form_is_wire}
use Rattle.dnw_c_names.proofs.wire_form.why_no_form.Goals as goal

pub returns-in-Ok : goal.returns-in-Ok
returns-in-Ok c =
    let octets = c.args.octets.now in
    let ls = c.in-Ok.field-0 in
    let (k, takes) = c.in-Ok.ensures.ok in
    let name : NameAt octets 0 ls takes.end k = subst (λ (d : Decoder). NameAt d.bytes d.index ls takes.end k) c.new.ensures takes.name in
    inr (ls, takes.end, k, name, (λ end. c.requires (form_is_wire octets ls k (subst (λ e. NameAt octets 0 ls e k) end name))), refl)

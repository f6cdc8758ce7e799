use Rattle.std.proofs.Common.{◌-◌, drop, length, take, arith}
use Rattle.std.proofs.lemmas.List.{length-drop, take_all}
use Rattle.dnw_signed.proofs.Selecting.{zone_is}
use Rattle.dnw_signed.proofs.covering.signs_for.Goals as goal

pub returns : goal.returns
returns c =
    let fields = c.args.fields.now in
    let whole = take_all (length fields - 18) (drop 18 fields) (omega (arith, length-drop 18 fields)) in
    let (to, back) = zone_is fields (take (length fields - 18) (drop 18 fields)) c.args.owner.now whole (rw whole c.requires) in
    let (zone, same) = rw (c.new-signer.ensures, c.wire_labels.ensures) at c.is_zone_of.ensures in
    (λ h. to (zone h), λ h. same (back h))

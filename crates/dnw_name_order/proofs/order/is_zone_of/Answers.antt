use Rattle.std.proofs.Common.{length, ap, sym, ◌∙◌}
use Rattle.dnw_base.specs.Names.{lower}
use Rattle.dnw_base.proofs.Wires.{length_wire}
use Rattle.dnw_name_order.proofs.Comparing.{lower_size}
use Rattle.dnw_name_order.proofs.order.is_zone_of.Goals as goal

pub returns : goal.returns
returns c =
    let same = c.eq_labels.ensures in (
      λ yes. let (front, whole) = c.last_octets.ensures.last in (front, c.last_octets.result, whole, same.0 yes),
      λ (front, rest, whole, lowered).
          let size = lower_size rest c.args.zone lowered ∙ sym (ap length c.as_wire.ensures.form ∙ length_wire c.args.zone) in
          same.1 (ap lower (c.last_octets.ensures.size front rest whole size) ∙ lowered),
    )

use Rattle.std.proofs.Common.{List, ℕ, ◌++◌, length, ap, sym, ◌∙◌}
use Rattle.dnw_base.proofs.Wires.{length_wire}
use Rattle.dnw_name_order.proofs.order.is_zone_of_case.Goals as goal

pub returns : goal.returns
returns c =
    let same = c.eq_labels_case.ensures in (
      λ yes.
          let (front, whole) = c.last_octets.ensures.last in
          (front, whole ∙ ap (λ (rest : List (List ℕ)). front ++ rest) (same.0 yes)),
      λ (front, whole).
          let size = sym (ap length c.as_wire.ensures.form ∙ length_wire c.args.zone) in
          same.1 (c.last_octets.ensures.size front c.args.zone whole size),
    )

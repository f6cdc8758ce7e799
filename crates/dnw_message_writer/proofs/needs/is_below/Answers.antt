-- A name is below a cut if its last labels are those of the cut.
use Rattle.std.proofs.Common.{◌≡◌, ℕ, ◌-◌, List, drop, length, map, take, sym, ap, ◌∙◌, arith, length-append}
use Rattle.std.specs.Char.{to_ascii_lowercase}
use Rattle.std.specs.Bool.{Decides, one_answer}
use Rattle.std.proofs.lemmas.List.{drop_at, length-map, take-append-drop}
use Rattle.dnw_base.specs.Names.{lower}
use Rattle.dnw_name_order.specs.Order.{IsZoneOf}
use Rattle.dnw_message_writer.specs.Needs.{is_below}
use Rattle.dnw_message_writer.proofs.Owners.{labels_Decides}
use Rattle.dnw_message_writer.proofs.needs.is_below.Goals as goal

lower_size : (ls : List (List ℕ)) → length (lower ls) ≡ length ls
lower_size ls = length-map ls (map to_ascii_lowercase)

last_labels : (cut name : List (List ℕ)) → IsZoneOf cut name → lower (drop (length name - length cut) name) ≡ lower cut
last_labels cut name (front, rest, is, same) =
    let sizes : length rest ≡ length cut = sym (lower_size rest) ∙ ap length same ∙ lower_size cut in
    let at : length front ≡ length name - length cut = omega (arith, ap length is, length-append front rest, sizes) in
    ap lower (ap (drop (length name - length cut)) is ∙ drop_at front rest (length name - length cut) at) ∙ same

below_Decides : (cut name : List (List ℕ)) → Decides (is_below cut name) (IsZoneOf cut name)
below_Decides cut name =
    let n = length name - length cut in
    let test = labels_Decides (lower (drop n name)) (lower cut) in
    (λ yes. (take n name, drop n name, sym (take-append-drop n name), test.0 yes), λ zone. test.1 (last_labels cut name zone))

pub returns : goal.returns
returns c =
    one_answer c.is_zone_of.result (is_below c.args.cut.now c.args.name.now)
    (rw (c.wire_labels.ensures, c.wire_labels-2.ensures) at c.is_zone_of.ensures) (below_Decides c.args.cut.now c.args.name.now)

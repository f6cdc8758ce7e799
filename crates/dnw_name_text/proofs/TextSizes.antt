-- How long the texts of names are.
use Rattle.std.proofs.Common.{ℕ, ◌*◌, ◌≤◌, Bool, true, false, List, [], ◌∷◌, ◌++◌, length, map, ap, arith}
use Rattle.std.specs.List.{join_with_byte}
use Rattle.std.proofs.lemmas.List.{length-append}
use Rattle.dnw_base.specs.Names.{AreLabels, NameValue}
use Rattle.dnw_name_form.specs.LabelText.{dot}
use Rattle.dnw_name_text.specs.AsciiText.{max_text}
use Rattle.dnw_name_text.proofs.AsciiSizes.{text_room, text_room_cons, room_short}
use Rattle.dnw_name_text.specs.NameTexts.{name_octet, label_octets, labels_text, text_of_name}
use Rattle.dnw_name_text.proofs.Joining.{dot_after_each}

few_of_octet : (o : ℕ) → length (name_octet o) ≤ 4
few_of_octet o = grind arith

few_of_label : (l : List ℕ) → length (label_octets l) ≤ 4 * length l
few_of_label [] = omega arith
few_of_label (o ∷ l) = omega (arith, few_of_octet o, few_of_label l, length-append (name_octet o) (label_octets l))

few_of_labels : (ls : List (List ℕ)) → length (labels_text ls) ≤ text_room ls
few_of_labels [] = omega arith
few_of_labels (l ∷ ls) =
    omega (arith, few_of_label l, few_of_labels ls, text_room_cons l ls, length-append (label_octets l ++ dot ∷ []) (labels_text ls), length-append (label_octets l) (dot ∷ []))

short : (is_fqdn : Bool) (ls : List (List ℕ)) → AreLabels ls → length (text_of_name (record { is_fqdn = is_fqdn; labels = ls })) ≤ max_text
short true [] h = omega arith
short false [] h = omega arith
short true (l ∷ ls) h = omega (arith, few_of_labels (l ∷ ls), room_short (l ∷ ls) h.each h.fit)
short false (l ∷ ls) h =
    let joined = join_with_byte dot (map label_octets (l ∷ ls)) in
    omega (arith, few_of_labels (l ∷ ls), room_short (l ∷ ls) h.each h.fit, ap length (dot_after_each l ls), length-append joined (dot ∷ []))

pub few_octets : (n : NameValue) → AreLabels n.labels → length (text_of_name n) ≤ max_text
few_octets n h = short n.is_fqdn n.labels h

-- The uncompressed form in lower case: no length octet is a letter.
use Rattle.std.proofs.Common.{◌≡◌, ◌↔◌, ℕ, ◌≤◌, List, [], ◌∷◌, ◌++◌, length, take, drop, map, refl, sym, ap, ◌∙◌, arith, rules, tests}
use Rattle.std.specs.List.{AllByRecursion, refill}
use Rattle.std.specs.Char.{to_ascii_lowercase}
use Rattle.std.proofs.lemmas.List.{map-append, length-map}
use Rattle.std.proofs.Math.Seq.{take-append_seam}
use Rattle.dnw_base.specs.Labels.{IsLabel}
use Rattle.dnw_base.specs.Names.{AreLabels, encoded_size, wire, lower}
use Rattle.dnw_base.proofs.Wires.{wire_cons, encoded_size_cons, length_wire}
use Rattle.dnw_name_form.specs.Inside.WireBytes.{labels_of}
use Rattle.dnw_name_form.proofs.Wires.{labels_of_wire}

no_letter : (n : ℕ) → n ≤ 63 → to_ascii_lowercase n ≡ n
no_letter n le = search (rules, tests)

pub lower_wire : (ls : List (List ℕ)) → AllByRecursion IsLabel ls → map to_ascii_lowercase (wire ls) ≡ wire (lower ls)
lower_wire [] each = refl
lower_wire (l ∷ ls) each =
    ap (map to_ascii_lowercase) (wire_cons l ls)
    ∙ rw (no_letter (length l) each.0.not_long, map-append to_ascii_lowercase l (wire ls), lower_wire ls each.1, ← length-map l to_ascii_lowercase) refl
    ∙ sym (wire_cons (map to_ascii_lowercase l) (lower ls))

-- bytes that are written over all of a list
pub refill_whole : (xs ws : List ℕ) → length ws ≡ length xs → refill (length xs) xs ws ≡ ws
refill_whole xs ws e =
    ap (λ (n : ℕ). take n (ws ++ drop (length ws) xs)) (sym e) ∙ take-append_seam ws (drop (length ws) xs)

lower_each : (ls : List (List ℕ)) → AllByRecursion IsLabel ls → AllByRecursion IsLabel (lower ls)
lower_each [] each = tt
lower_each (l ∷ ls) each =
    let same = length-map l to_ascii_lowercase in
    (record { not_empty = omega (arith, same, each.0.not_empty); not_long = omega (arith, same, each.0.not_long) }, lower_each ls each.1)

-- lower case keeps the size
pub encoded_size_lower : (ls : List (List ℕ)) → encoded_size (lower ls) ≡ encoded_size ls
encoded_size_lower [] = refl
encoded_size_lower (l ∷ ls) =
    omega (arith, encoded_size_cons l ls, encoded_size_cons (map to_ascii_lowercase l) (lower ls), length-map l to_ascii_lowercase, encoded_size_lower ls)

pub AreLabels_lower : (ls : List (List ℕ)) → AreLabels ls → AreLabels (lower ls)
AreLabels_lower ls h = record { each = lower_each ls h.each; fit = omega (arith, encoded_size_lower ls, h.fit) }

-- so labels are the same in lower case if their forms are
pub lower_wires : (ls rs : List (List ℕ)) → AreLabels ls → AreLabels rs → (map to_ascii_lowercase (wire ls) ≡ map to_ascii_lowercase (wire rs)) ↔ (lower ls ≡ lower rs)
lower_wires ls rs h k = (
  λ same.
      sym (labels_of_wire (lower ls) (lower_each ls h.each))
      ∙ ap labels_of (sym (lower_wire ls h.each) ∙ same ∙ lower_wire rs k.each)
      ∙ labels_of_wire (lower rs) (lower_each rs k.each),
  λ same. lower_wire ls h.each ∙ ap wire same ∙ sym (lower_wire rs k.each),
)

pub lower_long : (ls : List (List ℕ)) → AreLabels ls → length (wire (lower ls)) ≤ 255
lower_long ls h = omega (arith, length_wire (lower ls), encoded_size_lower ls, h.fit)

-- octets of a wire form that are written over by the same in lower case
pub refill_lowered : (ls : List (List ℕ)) (xs ws : List ℕ) → AllByRecursion IsLabel ls → xs ≡ wire ls → ws ≡ map to_ascii_lowercase xs → refill (length xs) xs ws ≡ wire (lower ls)
refill_lowered ls xs ws each form after =
    refill_whole xs ws (ap length after ∙ length-map xs to_ascii_lowercase) ∙ (after ∙ (ap (map to_ascii_lowercase) form ∙ lower_wire ls each))

-- The uncompressed form of labels, its size, and how many labels it has.
use Rattle.std.proofs.Common.{◌≡◌, ◌↔◌, ℕ, ◌+◌, ◌≤◌, List, [], ◌∷◌, ◌++◌, length, refl, sym, ap, ◌∙◌, append_assoc, arith}
use Rattle.std.specs.List.{AllByRecursion}
use Rattle.std.proofs.lemmas.List.{length-append, append-nil}
use Rattle.std.proofs.lemmas.List.Sums.{sum_by-cons, sum_by_push}
use Rattle.dnw_base.specs.Labels.{IsLabel}
use Rattle.dnw_base.specs.Names.{AreLabels, encoded_size, label_wire, labels_wire, wire}

-- the form of a label and more is its length octet, its bytes and the form of the others
pub wire_cons : (l : List ℕ) (ls : List (List ℕ)) → wire (l ∷ ls) ≡ length l ∷ (l ++ wire ls)
wire_cons l ls = ap (λ (bytes : List ℕ). length l ∷ bytes) (append_assoc l (labels_wire ls) (0 ∷ []))

pub encoded_size_cons : (l : List ℕ) (ls : List (List ℕ)) → encoded_size (l ∷ ls) ≡ length l + 1 + encoded_size ls
encoded_size_cons l ls = omega (arith, sum_by-cons (λ (m : List ℕ). length m + 1) l ls)

pub encoded_size_push : (ls : List (List ℕ)) (l : List ℕ) → encoded_size (ls ++ l ∷ []) ≡ encoded_size ls + 1 + length l
encoded_size_push ls l = omega (arith, sum_by_push (λ (m : List ℕ). length m + 1) ls l)

pub length_wire : (ls : List (List ℕ)) → length (wire ls) ≡ encoded_size ls
length_wire [] = refl
length_wire (l ∷ ls) = omega (arith, ap length (wire_cons l ls), length-append l (wire ls), length_wire ls, encoded_size_cons l ls)

pub AllByRecursion_push : (ls : List (List ℕ)) (l : List ℕ) → AllByRecursion IsLabel ls → IsLabel l → AllByRecursion IsLabel (ls ++ l ∷ [])
AllByRecursion_push [] l each h = (h, tt)
AllByRecursion_push (m ∷ ls) l each h = (each.0, AllByRecursion_push ls l each.1 h)

pub labels_wire_push : (ls : List (List ℕ)) (l : List ℕ) → labels_wire (ls ++ l ∷ []) ≡ labels_wire ls ++ label_wire l
labels_wire_push [] l = append-nil (label_wire l)
labels_wire_push (m ∷ ls) l = ap (λ (bytes : List ℕ). label_wire m ++ bytes) (labels_wire_push ls l) ∙ sym (append_assoc (label_wire m) (labels_wire ls) (label_wire l))

-- there are no more labels than octets
pub few_labels : (ls : List (List ℕ)) → length ls ≤ encoded_size ls
few_labels [] = omega arith
few_labels (l ∷ ls) = omega (arith, few_labels ls, encoded_size_cons l ls)

-- a form of one octet is that of no labels
pub no_labels_size : (ls : List (List ℕ)) → (encoded_size ls ≡ 1) ↔ (ls ≡ [])
no_labels_size [] = (λ _. refl, λ _. refl)
no_labels_size (l ∷ ls) = (λ e. absurd (omega (arith, e, encoded_size_cons l ls, few_labels ls)), λ e. absurd cc)

-- fewer labels are labels
pub AreLabels_rest : (l : List ℕ) (ls : List (List ℕ)) → AreLabels (l ∷ ls) → AreLabels ls
AreLabels_rest l ls h = record { each = h.each.1; fit = omega (arith, h.fit, encoded_size_cons l ls) }

-- each label takes two octets or more
pub label_pairs : (ls : List (List ℕ)) → AllByRecursion IsLabel ls → length ls + length ls + 1 ≤ encoded_size ls
label_pairs [] each = omega arith
label_pairs (l ∷ ls) each = omega (arith, encoded_size_cons l ls, label_pairs ls each.1, each.0.not_empty)

pub AreLabels_few : (ls : List (List ℕ)) → AreLabels ls → length ls ≤ 127
AreLabels_few ls h = omega (arith, label_pairs ls h.each, h.fit)

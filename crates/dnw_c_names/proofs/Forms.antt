-- Octets that are a name's wire form, whole.
use Rattle.std.proofs.Common.{◌≡◌, ◌↔◌, ◌≤◌, ℕ, List, [], ◌∷◌, length, take, drop, refl, sym, ap, ◌∙◌, subst, arith}
use Rattle.std.proofs.lemmas.List.{append-nil, length-append, length-take-le, nil_from_length, take-append-drop}
use Rattle.dnw_base.specs.Limits.{max_name}
use Rattle.dnw_base.specs.Names.{AreLabels, labels_wire, wire}
use Rattle.dnw_base.proofs.Wires.{length_wire, wire_cons}
use Rattle.dnw_base.specs.Decoder.{Decoder}
use Rattle.dnw_name_read.specs.Reading.{NameAt, TakesName}
use Rattle.dnw_name_read.proofs.Back.{Reads_wire}
use Rattle.dnw_name_read.proofs.Counts.{Reads_labels}
use Rattle.dnw_name_form.specs.Inside.WireBytes.{IsWire, labels_of}
use Rattle.dnw_name_form.proofs.Wires.{IsWire_front, IsWire_wire, begins_with_zero, labels_of_form, labels_of_wire, size_of_wire}
use Rattle.dnw_c_base.proofs.Starts.{form_size}
use Rattle.dnw_c_base.proofs.WireForms.{form_is}

pub form_fits : (ls : List (List ℕ)) → AreLabels ls → length (wire ls) ≤ max_name
form_fits ls h = omega (arith, form_size ls, h.fit)

are_labels : (form : List ℕ) (ls : List (List ℕ)) (k : ℕ) → NameAt form 0 ls (length form) k → AreLabels ls
are_labels form ls k name = record { each = Reads_labels name.reads; fit = name.fits }

pub form_is_wire : (form : List ℕ) (ls : List (List ℕ)) (k : ℕ) → NameAt form 0 ls (length form) k → IsWire form
form_is_wire form ls k name = subst IsWire (sym (form_is form ls k name)) (IsWire_wire ls (are_labels form ls k name))

pub form_labels : (form : List ℕ) (ls : List (List ℕ)) (k : ℕ) → NameAt form 0 ls (length form) k → labels_of form ≡ ls
form_labels form ls k name =
    rw (form_is form ls k name) (labels_of_wire ls (are_labels form ls k name).each)

-- a form is read as its labels
pub form_name : (form : List ℕ) → IsWire form → NameAt form 0 (labels_of form) (length form) 0
form_name form w =
    let ls = labels_of form in
    record { reads = Reads_wire form [] [] ls 0 0 (length form) refl (omega (arith, size_of_wire form w)) (w.spelled ∙ sym (append-nil (wire ls))) w.labels.each; fits = w.labels.fit }

-- ---- octet after octet: the octets are a form if and only if what is left after a label is one

pub form_none : IsWire [] → ⊥
form_none w = absurd (omega (arith, ap length w.spelled, length-append (labels_wire (labels_of [])) (0 ∷ [])))

pub form_end : (bytes others : List ℕ) → bytes ≡ 0 ∷ others → IsWire bytes ↔ (length others ≡ 0)
form_end bytes others is = (
  λ w. let spelled : 0 ∷ others ≡ 0 ∷ [] = sym is ∙ (w.spelled ∙ ap wire (begins_with_zero bytes 0 others is refl)) in
      let none : others ≡ [] = cc in ap length none,
  λ none. rw (is, nil_from_length others none) (IsWire_wire [] (record { each = tt; fit = omega arith })),
)

pub form_next : (bytes others : List ℕ) (c : ℕ) → bytes ≡ c ∷ others → (c ≡ 0 → ⊥) → c ≤ 63 → c ≤ length others → length bytes ≤ 255
    → IsWire bytes ↔ IsWire (drop c others)
form_next bytes others c is some short fits few =
    let l = take c others in
    let len : length l ≡ c = length-take-le c others fits in (
      λ w. (IsWire_front bytes c others w is some).others,
      λ w. let ls = labels_of (drop c others) in
          let form : bytes ≡ wire (l ∷ ls) = sym (wire_cons l ls ∙ rw (len, ← w.spelled, take-append-drop c others) (sym is)) in
          (labels_of_form bytes (l ∷ ls) form (record {
            each = (record { not_empty = omega (arith, len, some); not_long = omega (arith, len, short) }, w.labels.each);
            fit = omega (arith, length_wire (l ∷ ls), ap length form, few);
          })).0,
    )

pub form_short : (bytes others : List ℕ) (c : ℕ) → bytes ≡ c ∷ others → (c ≡ 0 → ⊥) → IsWire bytes → (c ≤ 63) × (c ≤ length others)
form_short bytes others c is some w =
    let front = IsWire_front bytes c others w is some in
    (omega (arith, front.is_label.not_long, length-take-le c others front.fits), front.fits)

-- what a decoder of the octets has read, if none is left
pub form_read : (form : List ℕ) (first after : Decoder) (ls : List (List ℕ)) (k : ℕ) → first ≡ record { bytes = form; index = 0 }
    → TakesName first after ls k → after.index ≡ length after.bytes → NameAt form 0 ls (length form) k
form_read form first after ls k is takes whole =
    let moved = takes.moved in
    let end : takes.end ≡ length form =
    sym (ap (λ (d : Decoder). d.index) moved) ∙ (whole ∙ (ap (λ (d : Decoder). length d.bytes) moved ∙ ap (λ (d : Decoder). length d.bytes) is)) in
    subst (λ e. NameAt form 0 ls e k) end (subst (λ (d : Decoder). NameAt d.bytes d.index ls takes.end k) is takes.name)

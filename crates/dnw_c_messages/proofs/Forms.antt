-- The octets of a wire form.
use Rattle.std.proofs.Common.{◌≡◌, ℕ, ◌-◌, Option, List, [], ◌++◌, length, drop, refl, sym, ap, ◌∙◌, subst, arith}
use Rattle.std.proofs.lemmas.List.{drop_all, take_all}
use Rattle.dnw_base.specs.Names.{AreLabels, wire}
use Rattle.dnw_base.proofs.Wires.{length_wire}
use Rattle.dnw_name_read.specs.Reading.{NameAt, Reads, zero_octet, label, pointer}
use Rattle.dnw_name_read.proofs.Back.{Reads_wire}
use Rattle.dnw_name_read.proofs.Copying.{Reads_plain}
use Rattle.dnw_name_read.proofs.Counts.{Reads_labels}
use Rattle.dnw_name_form.specs.Inside.WireBytes.{IsWire, labels_of}
use Rattle.dnw_name_form.proofs.Wires.{IsWire_wire, labels_of_wire}

-- in the segment that begins at offset 0 no pointer can be followed
no_pointers : {b : List ℕ} {p e k : ℕ} {limit : Option ℕ} {ls : List (List ℕ)} → Reads b p 0 limit ls e k → k ≡ 0
no_pointers (zero_octet w g) = refl
no_pointers (label c w g one most fit r) = no_pointers r
no_pointers (pointer high low w g least g' prior r) = absurd (omega (arith, prior))

-- so octets that are a name are its wire form
form_is : (form : List ℕ) (ls : List (List ℕ)) (k : ℕ) → NameAt form 0 ls (length form) k → form ≡ wire ls
form_is form ls k name = sym (take_all (length form - 0) form (omega arith)) ∙ Reads_plain name.reads (no_pointers name.reads)

are_labels : (form : List ℕ) (ls : List (List ℕ)) (k : ℕ) → NameAt form 0 ls (length form) k → AreLabels ls
are_labels form ls k name = record { each = Reads_labels name.reads; fit = name.fits }

pub form_is_wire : (form : List ℕ) (ls : List (List ℕ)) (k : ℕ) → NameAt form 0 ls (length form) k → IsWire form
form_is_wire form ls k name = subst IsWire (sym (form_is form ls k name)) (IsWire_wire ls (are_labels form ls k name))

pub form_labels : (form : List ℕ) (ls : List (List ℕ)) (k : ℕ) → NameAt form 0 ls (length form) k → labels_of form ≡ ls
form_labels form ls k name =
    rw (form_is form ls k name) (labels_of_wire ls (are_labels form ls k name).each)

-- a wire form is read as its labels
pub whole_form : (form : List ℕ) (ls : List (List ℕ)) → AreLabels ls → form ≡ wire ls ++ drop (length (wire ls)) form
    → length (wire ls) ≡ length form → (k : ℕ) × NameAt form 0 ls (length form) k
whole_form form ls are is size =
    let none = drop_all (length (wire ls)) form (omega (arith, size)) in
    let spelled : form ≡ wire ls ++ [] = is ∙ ap (λ x. wire ls ++ x) none in
    (0, record { reads = Reads_wire form [] [] ls 0 0 (length form) refl (omega (arith, size, length_wire ls)) spelled are.each; fits = are.fit })

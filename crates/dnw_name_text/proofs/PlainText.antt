-- A text of simple labels, in which each dot gives way to the length of the next label.
use Rattle.std.proofs.Common.{◌≡◌, ℕ, ◌+◌, ◌-◌, ◌<◌, ◌≤◌, List, [], ◌∷◌, ◌++◌, length, take, drop, set, get_or, Bool, true, false, Ok, refl, sym, ap, ◌∙◌, append_assoc, arith}
use Rattle.std.specs.List.{AllByRecursion}
use Rattle.std.specs.Str.{chars}
use Rattle.std.proofs.Math.Seq.{set-append_seam, take-append_seam}
use Rattle.std.proofs.lemmas.List.{append-nil, length-append, length-drop, length-take-le, take_all, drop_all, drop-drop, get_or-drop}
use Rattle.dnw_base.specs.Fault.{◌>>=◌}
use Rattle.dnw_base.specs.Labels.{IsLabel}
use Rattle.dnw_base.specs.Names.{AreLabels, encoded_size, label_wire, labels_wire, wire}
use Rattle.dnw_base.proofs.Wires.{AllByRecursion_push, labels_wire_push, encoded_size_push, length_wire}
use Rattle.dnw_name_form.specs.LabelText.{dot}
use Rattle.dnw_name_text.specs.AsciiText.{Outside}
use Rattle.dnw_name_text.specs.Inside.TextReader.{IsSimpleLabel, PutsLengths, name_from_rest}
use Rattle.dnw_name_form.specs.Inside.WireBytes.{IsWire, labels_of}
use Rattle.dnw_name_form.proofs.Wires.{labels_of_form}
use Rattle.dnw_name_form.proofs.EditLemmas.{with_label_fits}
use Rattle.dnw_name_text.proofs.SimpleLabels.{parts_at, name_from_rest_label, name_from_rest_last}
use Rattle.dnw_name_text.proofs.TextReading.{at_end}

-- The labels before start have their lengths: what follows them is one octet, the rest of the text and a zero.
pub record Put (text octets : List ℕ) (start : ℕ) : Type 0 where
  pub labels : List (List ℕ)
  pub each : AllByRecursion IsLabel labels
  pub octet : ℕ
  pub shape : octets ≡ labels_wire labels ++ octet ∷ (drop start text ++ 0 ∷ [])
  pub start_is : start ≡ length (labels_wire labels)
  pub within : start ≤ length text
  pub name : name_from_rest labels [] Outside (chars (drop start text)) ≡ name_from_rest [] [] Outside (chars text)

pub Put_start : (text octets : List ℕ) → octets ≡ 0 ∷ text ++ 0 ∷ [] → Put text octets 0
Put_start text octets e = record { labels = []; each = tt; octet = 0; shape = e; start_is = refl; within = omega arith; name = refl }

-- the next label has n bytes
module _ {text octets : List ℕ} {start : ℕ} (h : Put text octets start) (few : length text ≤ 253) (n : ℕ) (inside : start + n ≤ length text)
    (s : IsSimpleLabel (take n (drop start text))) where
  abbrev label : List ℕ
  label = take n (drop start text)

  size : length label ≡ n
  size = length-take-le n (drop start text) (omega (arith, length-drop start text))

  room : encoded_size h.labels + 1 + length label ≤ 255
  room = omega (arith, length_wire h.labels, length-append (labels_wire h.labels) (0 ∷ []), h.start_is, size)

  longer : AreLabels (h.labels ++ label ∷ [])
  longer = record { each = AllByRecursion_push h.labels label h.each s.is_label; fit = omega (arith, encoded_size_push h.labels label, room) }

  -- the octet before it is its length
  put : (rest : List ℕ) → drop start text ≡ label ++ rest → set octets start n ≡ labels_wire (h.labels ++ label ∷ []) ++ (rest ++ 0 ∷ [])
  put rest e =
      ap (set octets start) (sym size) ∙ rw h.shape (ap (λ (i : ℕ). set (labels_wire h.labels ++ h.octet ∷ (drop start text ++ 0 ∷ [])) i (length label)) h.start_is
      ∙ set-append_seam (labels_wire h.labels) h.octet (drop start text ++ 0 ∷ []) (length label)
      ∙ rw (ap (λ (l : List ℕ). l ++ 0 ∷ []) e ∙ append_assoc label rest (0 ∷ []), labels_wire_push h.labels label, append_assoc (labels_wire h.labels) (label_wire label) (rest ++ 0 ∷ [])) refl)

  named : (rest : List ℕ) → drop start text ≡ label ++ rest → name_from_rest h.labels [] Outside (chars (label ++ rest)) ≡ name_from_rest [] [] Outside (chars text)
  named rest e = ap (λ (t : List ℕ). name_from_rest h.labels [] Outside (chars t)) (sym e) ∙ h.name

  -- it is the last one
  pub Put-last : start + n ≡ length text → PutsLengths text (set octets start n) false
  Put-last end =
      let e : drop start text ≡ label ++ [] = sym (append-nil label ∙ take_all n (drop start text) (omega (arith, length-drop start text))) in
      record {
        labels = h.labels ++ label ∷ [];
        are_labels = longer;
        name =
            sym (named [] e) ∙ name_from_rest_last h.labels label s
            ∙ ap (λ r. r >>= (λ all. Ok (record { is_fqdn = false; labels = all }))) (with_label_fits h.labels label room);
        form = put [] e ∙ sym (append-nil (wire (h.labels ++ label ∷ [])));
      }

  -- or a dot follows
  pub Put-more : start + n < length text → get_or text (start + n) 0 ≡ dot → Put text (set octets start n) (start + n + 1)
  Put-more lt is =
      let rest = drop (start + n + 1) text in
      let after : drop (n + 1) (drop start text) ≡ rest = drop-drop (n + 1) start text ∙ ap (λ (k : ℕ). drop k text) (omega arith) in
      let e : drop start text ≡ label ++ dot ∷ rest =
      parts_at (drop start text) n dot (omega (arith, length-drop start text)) (get_or-drop start text n 0 ∙ is)
      ∙ ap (λ (more : List ℕ). label ++ dot ∷ more) after in
      record {
        labels = h.labels ++ label ∷ [];
        each = longer.each;
        octet = dot;
        shape = put (dot ∷ rest) e;
        start_is = omega (arith, size, h.start_is, ap length (labels_wire_push h.labels label), length-append (labels_wire h.labels) (label_wire label));
        within = omega arith;
        name =
            sym (ap (λ r. r >>= (λ longer. name_from_rest longer [] Outside (chars rest))) (with_label_fits h.labels label room))
            ∙ sym (name_from_rest_label h.labels label rest s) ∙ named (dot ∷ rest) e;
      }

-- at the end of the text the last dot gives way to a zero
pub Put_end : {text octets : List ℕ} {start : ℕ} → Put text octets start → length text ≤ 253 → start ≡ length text → PutsLengths text (set octets start 0) true
Put_end {text} {octets} {start} h few end =
    let none : drop start text ≡ [] = drop_all start text (omega arith) in
    record {
      labels = h.labels;
      are_labels = record { each = h.each; fit = omega (arith, length_wire h.labels, length-append (labels_wire h.labels) (0 ∷ []), h.start_is) };
      name = sym h.name ∙ rw none (at_end h.labels [] refl);
      form = rw (h.shape, none) (ap (λ (i : ℕ). set (labels_wire h.labels ++ h.octet ∷ 0 ∷ []) i 0) h.start_is
          ∙ set-append_seam (labels_wire h.labels) h.octet (0 ∷ []) 0 ∙ sym (append_assoc (labels_wire h.labels) (0 ∷ []) (0 ∷ [])));
    }

-- What was put over all octets is a wire form, and the text gives its labels.
pub PutsLengths_relative : (text octets : List ℕ) (is_fqdn : Bool) → PutsLengths text octets is_fqdn → is_fqdn ≡ false
    → IsWire octets × (name_from_rest [] [] Outside (chars text) ≡ Ok (record { is_fqdn = false; labels = labels_of octets }))
PutsLengths_relative text octets is_fqdn puts is =
    let put : PutsLengths text octets false = rw is at puts in
    let (wires, same) = labels_of_form _ put.labels (put.form ∙ append-nil (wire put.labels)) put.are_labels in
    (wires, rw same put.name)

pub PutsLengths_fqdn : (text octets rest : List ℕ) (is_fqdn : Bool) → PutsLengths text octets is_fqdn → is_fqdn ≡ true
    → rest ≡ take (length octets - 1) octets
    → IsWire rest × (name_from_rest [] [] Outside (chars text) ≡ Ok (record { is_fqdn = true; labels = labels_of rest }))
PutsLengths_fqdn text octets rest is_fqdn puts is rest_is =
    let put : PutsLengths text octets true = rw is at puts in
    let long : length octets - 1 ≡ length (wire put.labels) = omega (arith, ap length put.form, length-append (wire put.labels) (0 ∷ [])) in
    let form : rest ≡ wire put.labels = rest_is ∙ rw (long, put.form) (take-append_seam (wire put.labels) (0 ∷ [])) in
    let (wires, same) = labels_of_form rest put.labels form put.are_labels in
    (wires, rw same put.name)

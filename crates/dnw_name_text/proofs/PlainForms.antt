-- A text of labels whose octets stand for themselves, in which each dot gives way to the length of the next label.
use Rattle.std.proofs.Common.{◌≡◌, ℕ, ◌+◌, ◌<◌, ◌≤◌, Option, List, [], ◌∷◌, ◌++◌, length, take, drop, set, get_or, true, Ok, refl, sym, ap, ◌∙◌, append_assoc, arith}
use Rattle.std.specs.List.{AllByRecursion}
use Rattle.std.proofs.Math.Seq.{set-append_seam, take-append_seam}
use Rattle.std.proofs.lemmas.Bool.{ne_eqb}
use Rattle.std.proofs.lemmas.List.{length-append, length-drop, length-take-le, take-append-drop, drop_all, drop_more, drop-drop}
use Rattle.dnw_base.specs.Labels.{IsLabel}
use Rattle.dnw_base.specs.Names.{AreLabels, encoded_size, label_wire, labels_wire, wire}
use Rattle.dnw_base.proofs.Wires.{AllByRecursion_push, labels_wire_push, length_wire}
use Rattle.dnw_name_form.specs.LabelText.{dot}
use Rattle.dnw_name_form.proofs.EditLemmas.{with_label_fits}
use Rattle.dnw_name_text.specs.declared.reading.Escape.TheVariants.{Outside}
use Rattle.dnw_name_text.specs.NameReading.{labels_from, labels_of_text, name_of_text}
use Rattle.dnw_name_text.specs.Inside.Labels.{BeginsPlain}

-- The labels before start have their lengths: what follows them is one octet, the rest of the text and more.
pub record Placed (text room : List ℕ) (start : ℕ) : Type 0 where
  pub labels : List (List ℕ)
  pub each : AllByRecursion IsLabel labels
  pub octet : ℕ
  pub more : List ℕ
  pub shape : room ≡ labels_wire labels ++ octet ∷ (drop start text ++ more)
  pub start_is : start ≡ length (labels_wire labels)
  pub within : start ≤ length text
  pub reads : labels_from start labels [] Outside (drop start text) ≡ labels_from 0 [] [] Outside text

pub Placed_start : (text before room more : List ℕ) → 1 ≤ length before → room ≡ take 1 before ++ (text ++ more) → Placed text room 0
Placed_start text [] room more some is = absurd (omega (arith, some))
Placed_start text (octet ∷ before) room more some is =
    record { labels = []; each = tt; octet = octet; more = more; shape = is; start_is = refl; within = omega arith; reads = refl }

-- the next label has n octets, and a dot follows
module _ {text room : List ℕ} {start : ℕ} (h : Placed text room start) (few : length text < 255) (n : ℕ) (some : 1 ≤ n) (short : n ≤ 63) (inside : start + n < length text)
    (plain : BeginsPlain (drop start text) n) (dotted : get_or text (start + n) 0 ≡ dot) where
  abbrev label : List ℕ
  label = take n (drop start text)

  abbrev rest : List ℕ
  rest = drop (start + n + 1) text

  size : length label ≡ n
  size = length-take-le n (drop start text) (omega (arith, length-drop start text))

  others : drop n (drop start text) ≡ dot ∷ rest
  others = drop-drop n start text ∙ ap (λ (i : ℕ). drop i text) (omega arith) ∙ drop_more text (start + n) 0 inside ∙ ap (λ (c : ℕ). c ∷ rest) dotted

  parts : drop start text ≡ label ++ dot ∷ rest
  parts = sym (take-append-drop n (drop start text)) ∙ ap (λ (after : List ℕ). label ++ after) others

  room_left : encoded_size h.labels + 1 + length label ≤ 255
  room_left = omega (arith, length_wire h.labels, length-append (labels_wire h.labels) (0 ∷ []), h.start_is, size)

  read : labels_from (start + n) h.labels label Outside (dot ∷ rest) ≡ labels_from (start + n + 1) (h.labels ++ label ∷ []) [] Outside rest
  read = rw (ne_eqb (length label) 0 (λ z. omega (arith, size)), with_label_fits h.labels label room_left) refl

  pub Placed-label : Placed text (set room start n) (start + n + 1)
  Placed-label = record {
    labels = h.labels ++ label ∷ [];
    each = AllByRecursion_push h.labels label h.each (record { not_empty = omega (arith, size); not_long = omega (arith, size) });
    octet = dot;
    more = h.more;
    shape =
        ap (set room start) (sym size) ∙ rw h.shape (ap (λ (i : ℕ). set (labels_wire h.labels ++ h.octet ∷ (drop start text ++ h.more)) i (length label)) h.start_is
        ∙ set-append_seam (labels_wire h.labels) h.octet (drop start text ++ h.more) (length label)
        ∙ rw (ap (λ (l : List ℕ). l ++ h.more) parts ∙ append_assoc label (dot ∷ rest) h.more, labels_wire_push h.labels label, append_assoc (labels_wire h.labels) (label_wire label) (dot ∷ (rest ++ h.more))) refl);
    start_is = omega (arith, size, h.start_is, ap length (labels_wire_push h.labels label), length-append (labels_wire h.labels) (label_wire label));
    within = omega arith;
    reads = sym read ∙ ap (λ (cs : List ℕ). labels_from (start + n) h.labels label Outside cs) (sym others) ∙ sym (plain start h.labels) ∙ h.reads;
  }

-- a label takes two octets or more
two_octets : (labels : List (List ℕ)) → AllByRecursion IsLabel labels → 1 ≤ length (labels_wire labels) → 2 ≤ length (labels_wire labels)
two_octets [] each some = omega (arith, some)
two_octets (label ∷ labels) each some = omega (arith, each.0.not_empty, length-append (label_wire label) (labels_wire labels))

whole_text : (text : List ℕ) → 2 ≤ length text → labels_of_text text ≡ labels_from 0 [] [] Outside text
whole_text [] two = absurd (omega (arith, two))
whole_text (c ∷ []) two = absurd (omega (arith, two))
whole_text (c ∷ d ∷ cs) two = refl

-- What is at the front of the room once the last dot gives way to a zero: the wire form of the labels that the text gives.
pub record PutsForm (text room : List ℕ) (end : ℕ) : Type 0 where
  pub labels : List (List ℕ)
  pub form : take end room ≡ wire labels
  pub size : end ≡ encoded_size labels
  pub are : AreLabels labels
  pub name : (origin : Option (List (List ℕ))) → name_of_text origin text ≡ Ok (record { is_fqdn = true; labels = labels })

pub Placed_end : {text room : List ℕ} {start : ℕ} → Placed text room start → 1 ≤ length text → length text < 255 → length text ≤ start → PutsForm text (set room start 0) (start + 1)
Placed_end {text} {room} {start} h some few end =
    let none : drop start text ≡ [] = drop_all start text end in
    let all : set room start 0 ≡ wire h.labels ++ h.more =
    rw (h.shape, none) (ap (λ (i : ℕ). set (labels_wire h.labels ++ h.octet ∷ h.more) i 0) h.start_is
    ∙ set-append_seam (labels_wire h.labels) h.octet h.more 0 ∙ sym (append_assoc (labels_wire h.labels) (0 ∷ []) h.more)) in
    let size : start + 1 ≡ length (wire h.labels) = omega (arith, h.start_is, length-append (labels_wire h.labels) (0 ∷ [])) in
    let given : labels_of_text text ≡ Ok (h.labels, true) =
    whole_text text (omega (arith, h.within, h.start_is, two_octets h.labels h.each (omega (arith, h.start_is)))) ∙ sym h.reads ∙ rw none refl in
    record {
      labels = h.labels;
      form = rw (size, all) (take-append_seam (wire h.labels) h.more);
      size = size ∙ length_wire h.labels;
      are = record { each = h.each; fit = omega (arith, size, length_wire h.labels, h.within) };
      name = λ origin. rw given refl;
    }

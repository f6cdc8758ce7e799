-- The texts of names whose octets stand for themselves: their wire forms after the first octet, with dots in the place of lengths.
use Rattle.std.proofs.Common.{◌≡◌, ℕ, ◌+◌, ◌-◌, ◌<◌, true, List, [], ◌∷◌, ◌++◌, length, drop, set, refl, ap, ◌∙◌, append_assoc, arith}
use Rattle.std.specs.List.{list_all}
use Rattle.std.proofs.Math.Seq.{set-append_seam}
use Rattle.std.proofs.lemmas.Bool.{and_parts, false≢true}
use Rattle.std.proofs.lemmas.List.{length-append}
use Rattle.dnw_base.specs.Names.{label_wire, labels_wire, wire}
use Rattle.dnw_name_form.specs.LabelText.{dot}
use Rattle.dnw_name_text.specs.NameTexts.{name_octet, full_name_text, label_octets, labels_text}
use Rattle.dnw_name_text.specs.PlainNames.{is_own_octet, is_plain_label, is_plain_name}
use Rattle.dnw_name_text.specs.Inside.Plain.{plain_text}

own_octet : (o : ℕ) → is_own_octet o ≡ true → name_octet o ≡ o ∷ []
unfolding is_own_octet
own_octet o h = grind arith

own_octets : (label : List ℕ) → list_all is_own_octet label ≡ true → label_octets label ≡ label
own_octets [] h = refl
own_octets (o ∷ label) h =
    let both = and_parts (is_own_octet o) _ h in
    rw (own_octet o both.0, own_octets label both.1) refl

pub plain_labels : (labels : List (List ℕ)) → list_all is_plain_label labels ≡ true → labels_text labels ≡ plain_text labels
plain_labels [] h = refl
plain_labels (label ∷ labels) h =
    let both = and_parts (is_plain_label label) _ h in
    rw (own_octets label both.0, plain_labels labels both.1) refl

pub plain_name : (labels : List (List ℕ)) → is_plain_name labels ≡ true → full_name_text labels ≡ plain_text labels
plain_name [] h = absurd (false≢true h)
plain_name (label ∷ labels) h = plain_labels (label ∷ labels) h

pub plain_each : (labels : List (List ℕ)) → is_plain_name labels ≡ true → list_all is_plain_label labels ≡ true
plain_each [] h = absurd (false≢true h)
plain_each (label ∷ labels) h = h

plain_size : (labels : List (List ℕ)) → length (plain_text labels) ≡ length (labels_wire labels)
plain_size [] = refl
plain_size (label ∷ labels) =
    omega (arith, plain_size labels, length-append (label ++ dot ∷ []) (plain_text labels), length-append label (dot ∷ []), length-append (label_wire label) (labels_wire labels))

-- a text takes an octet less than the wire form
pub plain_name_size : (labels : List (List ℕ)) → is_plain_name labels ≡ true → length (full_name_text labels) ≡ length (wire labels) - 1
plain_name_size labels h =
    omega (arith, ap length (plain_name labels h), plain_size labels, length-append (labels_wire labels) (0 ∷ []))

-- there are labels if it has more than its zero
pub none_plain : (labels : List (List ℕ)) (size : ℕ) → size ≡ length (wire labels) - 1 → size ≡ 0 → is_plain_name labels ≡ true → ⊥
none_plain [] size is none h = false≢true h
none_plain (label ∷ labels) size is none h = omega (arith, is, none, length-append (label_wire label ++ labels_wire labels) (0 ∷ []), length-append (label_wire label) (labels_wire labels))

-- The labels before end have dots after them: what follows is the wire form of the others after its first octet, and the rest.
pub record Dotted (all labels : List (List ℕ)) (rest out : List ℕ) (end : ℕ) : Type 0 where
  pub front : List ℕ
  pub size : end ≡ length front
  pub shape : out ≡ front ++ (drop 1 (wire labels) ++ rest)
  pub whole : front ++ plain_text labels ≡ plain_text all

-- a wire form is its first octet and the others
wire_head : (labels : List (List ℕ)) → (first : ℕ) × (wire labels ≡ first ∷ drop 1 (wire labels))
wire_head [] = (0, refl)
wire_head (label ∷ labels) = (length label, refl)

module _ {all : List (List ℕ)} {label : List ℕ} {labels : List (List ℕ)} {rest out : List ℕ} {end : ℕ} (h : Dotted all (label ∷ labels) rest out end) where
  abbrev after : List ℕ
  after = drop 1 (wire labels)

  spread : out ≡ (h.front ++ label) ++ (wire_head labels).0 ∷ (after ++ rest)
  spread =
      h.shape
      ∙ ap (λ (form : List ℕ). h.front ++ (form ++ rest)) (append_assoc label (labels_wire labels) (0 ∷ []) ∙ ap (λ (form : List ℕ). label ++ form) (wire_head labels).1)
      ∙ rw (append_assoc label, append_assoc h.front) refl

  pub Dotted-inside : end + length label < length out
  Dotted-inside = omega (arith, h.size, ap length spread, length-append (h.front ++ label) ((wire_head labels).0 ∷ (after ++ rest)), length-append h.front label)

  pub Dotted-label : Dotted all labels rest (set out (end + length label) dot) (end + length label + 1)
  Dotted-label =
      let place : end + length label ≡ length (h.front ++ label) = omega (arith, h.size, length-append h.front label) in
      record {
        front = h.front ++ (label ++ dot ∷ []);
        size = omega (arith, h.size, length-append h.front (label ++ dot ∷ []), length-append label (dot ∷ []));
        shape = rw (place, spread, set-append_seam, append_assoc h.front, append_assoc h.front, append_assoc label) refl;
        whole = append_assoc h.front (label ++ dot ∷ []) (plain_text labels) ∙ h.whole;
      }

pub Dotted_start : (labels : List (List ℕ)) (rest out : List ℕ) → out ≡ drop 1 (wire labels) ++ rest → Dotted labels labels rest out 0
Dotted_start labels rest out is = record { front = []; size = refl; shape = is; whole = refl }

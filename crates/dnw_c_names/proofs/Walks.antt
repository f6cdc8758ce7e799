-- A walk over octets that may be a wire form: each length octet tells whether they go on to one.
use Rattle.std.proofs.Common.{◌≡◌, ℕ, ◌+◌, ◌-◌, ◌*◌, ◌%◌, ◌<◌, ◌≤◌, ◌⊎◌, List, [], ◌∷◌, length, take, drop, get_or, refl, sym, ap, ◌∙◌, subst, arith}
use Rattle.std.proofs.lemmas.List.{drop-append-le, drop-drop, drop_more, length-append, length-drop, length-take-le, nil_from_length}
use Rattle.dnw_name_form.specs.Inside.WireBytes.{closed, IsWire}
use Rattle.dnw_name_form.proofs.LastLengths.{Passed, Passed_start, Passed_next, Passed_all}
use Rattle.dnw_name_form.proofs.OpenWires.{open_front}
use Rattle.dnw_c_names.specs.Inside.LastLengths.{HasLastLengths}
use Rattle.dnw_c_names.proofs.Forms.{form_end, form_next}

-- Octets without the closing zero were walked over up to an offset, and these are the lengths of the last labels before it. The
-- offset is past the end if a length is.
pub record Walked (octets : List ℕ) (at lengths : ℕ) : Type 0 where
  pub onward : IsWire (closed octets) → (at ≤ length octets) × Passed octets (drop at octets) lengths
  pub back : at ≤ length octets → IsWire (closed (drop at octets)) → IsWire (closed octets)

pub Walked_start : (octets : List ℕ) → Walked octets 0 0
Walked_start octets = record { onward = λ w. (omega arith, Passed_start octets w); back = λ _ w. w }

-- a length octet, and what stands after it
length_octet : (octets : List ℕ) (at c : ℕ) → at < length octets → c ≡ get_or octets at 0 → drop at octets ≡ c ∷ drop (at + 1) octets
length_octet octets at c within is = drop_more octets at 0 within ∙ ap (λ (n : ℕ). n ∷ drop (at + 1) octets) (sym is)

pub Walked_next : (octets : List ℕ) (at lengths c : ℕ) → length octets < 255 → at < length octets → c ≡ get_or octets at 0 → (c ≡ 0 → ⊥) → c ≤ 63
    → Walked octets at lengths → Walked octets (at + (1 + c)) (lengths % 72057594037927936 * 256 + c)
Walked_next octets at lengths c few within is some short walked =
    let others = drop (at + 1) octets in
    let split = length_octet octets at c within is in
    let after : drop c others ≡ drop (at + (1 + c)) octets = drop-drop c (at + 1) octets ∙ ap (λ (n : ℕ). drop n octets) (omega arith) in
    let left : length others ≡ length octets - (at + 1) = length-drop (at + 1) octets in
    record {
      onward = λ w.
          let (_, passed) = walked.onward w in
          let first = open_front _ c others passed.wire split in (
            omega (arith, first.fits, left),
            subst (λ rest. Passed octets rest (lengths % 72057594037927936 * 256 + c)) after (Passed_next octets _ lengths c others passed first),
          );
      back = λ fits w.
          let room : c ≤ length others = omega (arith, fits, left) in
          let form : drop c (closed others) ≡ closed (drop (at + (1 + c)) octets) = drop-append-le c others (0 ∷ []) room ∙ ap closed after in
          let size : length (closed (drop at octets)) ≤ 255 = omega (arith, few, length-append (drop at octets) (0 ∷ []), length-drop at octets) in
          let whole : c ≤ length (closed others) = omega (arith, room, length-append others (0 ∷ [])) in
          walked.back (omega (arith, within)) ((form_next (closed (drop at octets)) (closed others) c (ap closed split) some short whole size).1 (subst IsWire (sym form) w));
    }

-- no label has this length
pub Walked_fault : (octets : List ℕ) (at lengths c : ℕ) → at < length octets → c ≡ get_or octets at 0 → (c ≡ 0) ⊎ (63 < c) → Walked octets at lengths
    → IsWire (closed octets) → ⊥
Walked_fault octets at lengths c within is bad walked w =
    let (_, passed) = walked.onward w in
    let first = open_front _ c (drop (at + 1) octets) passed.wire (length_octet octets at c within is) in
    let size : length (take c (drop (at + 1) octets)) ≡ c = length-take-le c (drop (at + 1) octets) first.fits in
    absurd (omega (arith, bad, size, first.is_label.not_empty, first.is_label.not_long))

-- the octets end with a label
pub Walked_all : (octets : List ℕ) (at lengths : ℕ) → at ≡ length octets → Walked octets at lengths → HasLastLengths (closed octets) lengths
Walked_all octets at lengths end walked =
    let none : length (drop at octets) ≡ 0 = omega (arith, end, length-drop at octets) in
    let closing : IsWire (closed (drop at octets)) = (form_end _ [] (ap closed (nil_from_length (drop at octets) none))).1 refl in
    let w = walked.back (omega (arith, end)) closing in
    let (_, passed) = walked.onward w in
    record { wire = w; known = Passed_all octets (drop at octets) lengths passed none }

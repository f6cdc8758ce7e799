-- The octets of the labels that a walk has passed, segment by segment.
use Rattle.std.proofs.Common.{◌≡◌, ◌≢◌, ℕ, ◌+◌, ◌-◌, ◌<◌, ◌≤◌, List, [], ◌∷◌, ◌++◌, inl, inr, length, slice_get, slice_range, Some, refl, sym, ap, ◌∙◌, append_assoc, add-zero, arith, length-append}
use Rattle.std.proofs.lemmas.List.{append-nil}
use Rattle.std.proofs.lemmas.List.Edits.{length-between, between_none}
use Rattle.std.proofs.lemmas.Option.{get_or_from_slice_get, slice_get_within}
use Rattle.dnw_base.specs.Names.{encoded_size, label_wire, labels_wire, wire}
use Rattle.dnw_base.proofs.Wires.{labels_wire_push, length_wire}
use Rattle.dnw_name_read.specs.Inside.Found.{labels_at, IsInTwo}
use Rattle.dnw_name_read.specs.Inside.Walking.{IsFirstPiece, IsLabelAt, PassedOctets}
use Rattle.dnw_name_read.proofs.Copying.{slice_range_split, slice_range_cons}
use Rattle.dnw_name_read.proofs.Counts.{length_label}

-- none are passed before the first label
pub passed_none : (b : List ℕ) (p limit : ℕ) (passed : List (List ℕ)) → passed ≡ [] → limit ≤ length b → PassedOctets b p p p limit passed
passed_none b p limit passed none within = record {
  before = [];
  octets = rw (none, between_none) refl;
  none = λ _. refl;
  some = λ other. absurd (other refl);
  piece = λ _. rw (add-zero, between_none) refl;
  inside = λ same. omega (arith, same, within);
}

some_octets : (labels : List (List ℕ)) → labels ≢ [] → 1 ≤ length (labels_wire labels)
some_octets [] some = absurd (some refl)
some_octets (label ∷ labels) some = omega (arith, length-append (label_wire label) (labels_wire labels))

module _ {b : List ℕ} {first p s limit : ℕ} {passed : List (List ℕ)} (h : PassedOctets b first p s limit passed) where
  -- a label is passed
  pub passed_label : (c : ℕ) → IsLabelAt b p c → s ≤ p → PassedOctets b first (p + 1 + c) s limit (passed ++ slice_range b (p + 1) (p + 1 + c) ∷ [])
  passed_label c l order =
      let new : List ℕ = slice_range b (p + 1) (p + 1 + c) in
      let own : slice_range b p (p + 1 + c) ≡ label_wire new =
      rw (slice_range_cons b p (p + 1 + c) (omega (arith, l.there)) (omega arith), get_or_from_slice_get b p c 0 l.octet, length_label b p c l.there) refl in
      record {
        before = h.before;
        octets =
            labels_wire_push passed new ∙ ap (λ (front : List ℕ). front ++ label_wire new) h.octets ∙ append_assoc h.before (slice_range b s p) (label_wire new)
            ∙ ap (λ (more : List ℕ). h.before ++ (slice_range b s p ++ more)) (sym own)
            ∙ ap (λ (more : List ℕ). h.before ++ more) (sym (slice_range_split b s p (p + 1 + c) order (omega arith)));
        none = h.none;
        some = h.some;
        piece = h.piece;
        inside = h.inside;
      }

  -- a pointer is followed after a label
  pub passed_jump : (t : ℕ) → passed ≢ [] → t < s → s ≤ first → s ≤ p → p ≤ length b → PassedOctets b first t t s passed
  passed_jump t labels prior earlier order inside =
      let own : s ≡ first → h.before ++ slice_range b s p ≡ slice_range b first p = λ same. rw (h.none same, same) refl in
      let size : s ≡ first → first + length (h.before ++ slice_range b s p) ≡ p = λ same. omega (arith, ap length (own same), length-between b first p inside) in
      record {
        before = h.before ++ slice_range b s p;
        octets = rw (between_none, append-nil) h.octets;
        none = λ same. absurd (omega (arith, same, prior, earlier));
        some = λ _. rw (ap length h.octets) at (some_octets passed labels);
        piece = λ same. rw (size same) (own same);
        inside = λ same. omega (arith, size same, inside);
      }

  -- the segment has some of the octets, and the closing zero may follow
  pub last_few : s ≤ p → p ≤ length b → p + 1 - s ≤ encoded_size passed
  last_few order inside =
      omega (arith, length_wire passed, length-append (labels_wire passed) (0 ∷ []), ap length h.octets, length-append h.before (slice_range b s p), length-between b s p inside)

  -- the closing zero is there
  module _ {size : ℕ} (g : slice_get b p ≡ Some 0) (order : s ≤ p) (size_is : size ≡ encoded_size passed) (same : labels_at b first ≡ passed) where
    form : wire passed ≡ h.before ++ slice_range b s (p + 1)
    form =
        let inside = slice_get_within b p 0 g in
        let last : slice_range b p (p + 1) ≡ 0 ∷ [] = rw (slice_range_cons b p (p + 1) inside (omega arith), get_or_from_slice_get b p 0 0 g, between_none) refl in
        ap (λ (front : List ℕ). front ++ 0 ∷ []) h.octets ∙ append_assoc h.before (slice_range b s p) (0 ∷ [])
        ∙ ap (λ (more : List ℕ). h.before ++ (slice_range b s p ++ more)) (sym last)
        ∙ ap (λ (more : List ℕ). h.before ++ more) (sym (slice_range_split b s p (p + 1) order (omega arith)))

    pub sizes : length h.before + (p + 1 - s) ≡ size
    sizes =
        let inside = slice_get_within b p 0 g in
        omega (arith, size_is, length_wire passed, ap length form, length-append h.before (slice_range b s (p + 1)), length-between b s (p + 1) (omega (arith, inside)))

    pub in_two : (head : ℕ) → IsFirstPiece first s limit size (p + 1 - s) head → 1 ≤ head → IsInTwo b first size head s
    in_two head (inl (here, all)) some =
        let inside = slice_get_within b p 0 g in
        let none = h.none here in
        let long : first + head ≡ p + 1 = omega (arith, here, all, sizes, ap length none, order) in
        let no_more : s + (size - head) ≡ s = omega (arith, all) in
        record {
          front = omega (arith, long, inside);
          part = omega (arith, all);
          back = omega (arith, no_more, order, inside);
          form = rw (same, form, none, long, no_more, between_none, append-nil, here) refl;
        }
    in_two head (inr (inl (other, (here, others)))) some =
        let inside = slice_get_within b p 0 g in
        let long : head ≡ length h.before = omega (arith, others, sizes) in
        let end : s + (size - head) ≡ p + 1 = omega (arith, others, order) in
        record {
          front = omega (arith, long, h.inside here);
          part = omega (arith, others);
          back = omega (arith, end, inside);
          form = rw (same, form, end, long, ← h.piece here) refl;
        }
    in_two head (inr (inr (other, (away, none)))) some = absurd (omega (arith, none, some))

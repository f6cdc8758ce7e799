-- Octets that are compared from the last to the first, eight at a time.
use Rattle.std.proofs.Common.{◌≡◌, ℕ, ◌+◌, ◌-◌, ◌<◌, ◌≤◌, List, length, get_or, slice_range, sym, ap, ◌∙◌, inl, inr, refl, arith}
use Rattle.std.proofs.lemmas.Grind.{same_number_lists}
use Rattle.dnw_message_writer.proofs.Places.{range_index, range_length}
use Rattle.dnw_message_writer.proofs.Turning.{le_or_lt}

-- from a number of them on, the octets stand at an offset
pub record AreAlikeFrom (m : List ℕ) (at : ℕ) (octets : List ℕ) (left : ℕ) : Type 0 where
  pub inside : left ≤ length octets
  pub same : (k : ℕ) → left ≤ k → k < length octets → get_or m (at + k) 0 ≡ get_or octets k 0

module _ (m : List ℕ) (at : ℕ) (octets : List ℕ) where
  pub none_alike : (left : ℕ) → left ≡ length octets → AreAlikeFrom m at octets left
  none_alike left is = record { inside = omega (arith, is); same = λ k from small. absurd (omega (arith, is, from, small)) }

  pub all_alike : (left : ℕ) → left ≡ 0 → at + length octets ≤ length m → AreAlikeFrom m at octets left → slice_range m at (at + length octets) ≡ octets
  all_alike left none fits alike =
      let n = length octets in
      let size = range_length m at n fits in
      same_number_lists (slice_range m at (at + n)) octets size
      (λ k small. range_index m at n k (omega (arith, small, size)) ∙ alike.same k (omega (arith, none)) (omega (arith, small, size)))

  eight_alike : (p k : ℕ) → slice_range m (at + p) (at + p + 8) ≡ slice_range octets p (p + 8) → p ≤ k → k < p + 8
      → get_or m (at + k) 0 ≡ get_or octets k 0
  eight_alike p k same from small =
      let j = k - p in
      let k_is : p + j ≡ k = omega (arith, from) in
      let there : at + p + j ≡ at + k = omega (arith, from) in
      let first = range_index m (at + p) 8 j (omega (arith, from, small)) in
      let second = range_index octets p 8 j (omega (arith, from, small)) in
      ap (λ i. get_or m i 0) (sym there) ∙ (sym first ∙ (ap (λ (x : List ℕ). get_or x j 0) same ∙ (second ∙ ap (λ i. get_or octets i 0) k_is)))

  -- eight more of them do, before those or among them
  pub eight_more : (p left : ℕ) → p ≤ left → left ≤ p + 8 → slice_range m (at + p) (at + p + 8) ≡ slice_range octets p (p + 8)
      → AreAlikeFrom m at octets left → AreAlikeFrom m at octets p
  eight_more p left before near same alike = record {
    inside = omega (arith, before, alike.inside);
    same = λ k from small. elim (le_or_lt left k) [
      | inl later ↦ alike.same k later small
      | inr sooner ↦ eight_alike p k same from (omega (arith, near, sooner))
    ];
  }

  -- the first eight do, so that all do
  pub all_eights : (left : ℕ) → left ≤ 8 → at + length octets ≤ length m → slice_range m at (at + 8) ≡ slice_range octets 0 8
      → AreAlikeFrom m at octets left → slice_range m at (at + length octets) ≡ octets
  all_eights left near fits same alike =
      let zero : at + 0 ≡ at = omega arith in
      all_alike 0 refl fits (eight_more 0 left (omega arith) near (rw zero same) alike)

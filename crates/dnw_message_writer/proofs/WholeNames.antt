-- Octets that begin with the wire form of a name.
use Rattle.std.proofs.Common.{◌≡◌, ℕ, ◌+◌, ◌<◌, ◌≤◌, List, [], ◌∷◌, ◌++◌, length, take, drop, get_or, refl, sym, ap, ◌∙◌, append_assoc, arith}
use Rattle.std.specs.List.{AllByRecursion}
use Rattle.std.proofs.lemmas.List.{drop-drop, drop_at, drop_more, length-append, length-drop, length-take-le, take-append-drop, take_at}
use Rattle.dnw_base.specs.Labels.{IsLabel}
use Rattle.dnw_base.specs.Names.{AreLabels, encoded_size, wire}
use Rattle.dnw_base.proofs.Wires.{encoded_size_cons, length_wire, wire_cons}
use Rattle.dnw_message_writer.specs.Data.{StartsNoName}

-- From an offset on, the octets go on with labels up to a closing zero, and these leave a name its size.
pub record NameLeft (octets : List ℕ) (at : ℕ) : Type 0 where
  pub labels : List (List ℕ)
  pub rest : List ℕ
  pub each : AllByRecursion IsLabel labels
  pub is : drop at octets ≡ wire labels ++ rest
  pub few : at + encoded_size labels ≤ 255

-- With labels that are left from an offset on, the octets begin with labels.
pub record Begun (octets : List ℕ) (at : ℕ) (left : List (List ℕ)) (rest : List ℕ) : Type 0 where
  pub labels : List (List ℕ)
  pub each : AllByRecursion IsLabel labels
  pub is : octets ≡ wire labels ++ rest
  pub size : encoded_size labels ≡ at + encoded_size left

-- Labels were passed over up to an offset, which is past the end if the last one is cut.
pub record Passing (octets : List ℕ) (at : ℕ) : Type 0 where
  pub onward : NameLeft octets 0 → NameLeft octets at
  pub back : at ≤ length octets → (left : List (List ℕ)) (rest : List ℕ) → AllByRecursion IsLabel left → drop at octets ≡ wire left ++ rest
      → Begun octets at left rest

pub passing_none : (octets : List ℕ) → Passing octets 0
passing_none octets = record {
  onward = λ h. h;
  back = λ _ left rest each is. record { labels = left; each = each; is = is; size = omega arith };
}

split_off : (l : List ℕ) (ls : List (List ℕ)) (rest : List ℕ) → wire (l ∷ ls) ++ rest ≡ length l ∷ (l ++ (wire ls ++ rest))
split_off l ls rest = ap (λ o. o ++ rest) (wire_cons l ls) ∙ ap (λ o. length l ∷ o) (append_assoc l (wire ls) rest)

-- what is left after one more label
left_after : (octets : List ℕ) (at c : ℕ) (others : List ℕ) (labels : List (List ℕ)) (rest : List ℕ) → drop at octets ≡ c ∷ others
    → others ≡ drop (at + 1) octets → (c ≡ 0 → ⊥) → AllByRecursion IsLabel labels → drop at octets ≡ wire labels ++ rest → at + encoded_size labels ≤ 255
    → NameLeft octets (at + (1 + c))
left_after octets at c others [] rest split others_is some each is few =
    let same : c ∷ others ≡ 0 ∷ rest = sym split ∙ is in
    absurd (some cc)
left_after octets at c others (l ∷ ls) rest split others_is some each is few =
    let same : c ∷ others ≡ length l ∷ (l ++ (wire ls ++ rest)) = sym split ∙ (is ∙ split_off l ls rest) in
    let size : c ≡ length l = cc in
    let tail : others ≡ l ++ (wire ls ++ rest) = cc in
    let next : drop (at + (1 + c)) octets ≡ wire ls ++ rest =
    ap (λ n. drop n octets) (omega arith) ∙ (sym (drop-drop c (at + 1) octets) ∙ (ap (drop c) (sym others_is ∙ tail) ∙ drop_at l (wire ls ++ rest) c (sym size))) in
    record { labels = ls; rest = rest; each = each.1; is = next; few = omega (arith, few, size, encoded_size_cons l ls) }

pub passing_next : (octets : List ℕ) (at c : ℕ) → at < length octets → c ≡ get_or octets at 0 → (c ≡ 0 → ⊥) → c ≤ 63 → Passing octets at
    → Passing octets (at + (1 + c))
passing_next octets at c within is some short p =
    let others = drop (at + 1) octets in
    let split : drop at octets ≡ c ∷ others = drop_more octets at 0 within ∙ ap (λ (n : ℕ). n ∷ others) (sym is) in
    record {
      onward = λ h. let left = p.onward h in left_after octets at c others left.labels left.rest split refl some left.each left.is left.few;
      back = λ fits left rest each left_is.
          let room : c ≤ length others = omega (arith, fits, length-drop (at + 1) octets) in
          let l = take c others in
          let size : length l ≡ c = length-take-le c others room in
          let after : drop c others ≡ wire left ++ rest = drop-drop c (at + 1) octets ∙ (ap (λ n. drop n octets) (omega arith) ∙ left_is) in
          let whole : drop at octets ≡ wire (l ∷ left) ++ rest =
          split ∙ (ap (λ o. c ∷ o) (sym (take-append-drop c others) ∙ ap (λ o. l ++ o) after) ∙ (ap (λ n. n ∷ (l ++ (wire left ++ rest))) (sym size) ∙ sym (split_off l left rest))) in
          let b = p.back (omega (arith, within)) (l ∷ left) rest
          (record { not_empty = omega (arith, size, some); not_long = omega (arith, size, short) }, each) whole in
          record { labels = b.labels; each = b.each; is = b.is; size = omega (arith, b.size, size, encoded_size_cons l left) };
    }

-- the closing zero is reached
pub passing_end : (octets : List ℕ) (at : ℕ) → at < length octets → at < 255 → 0 ≡ get_or octets at 0 → Passing octets at
    → (ls : List (List ℕ)) × AreLabels ls × (take (at + 1) octets ≡ wire ls) × (octets ≡ wire ls ++ drop (at + 1) octets) × (length (wire ls) ≡ at + 1)
passing_end octets at within few zero p =
    let rest = drop (at + 1) octets in
    let split : drop at octets ≡ 0 ∷ rest = drop_more octets at 0 within ∙ ap (λ (n : ℕ). n ∷ rest) (sym zero) in
    let b = p.back (omega (arith, within)) [] rest tt split in
    let size : length (wire b.labels) ≡ at + 1 = omega (arith, length_wire b.labels, b.size) in (
      b.labels,
      record { each = b.each; fit = omega (arith, b.size, few) },
      ap (take (at + 1)) b.is ∙ take_at (wire b.labels) rest (at + 1) size,
      b.is,
      size,
    )

starts : (octets : List ℕ) → (NameLeft octets 0 → ⊥) → StartsNoName octets
starts octets none = λ ls rest are is. none (record { labels = ls; rest = rest; each = are.each; is = is; few = omega (arith, are.fit) })

too_long : (c : ℕ) (others : List ℕ) (labels : List (List ℕ)) (rest : List ℕ) → 63 < c → AllByRecursion IsLabel labels → c ∷ others ≡ wire labels ++ rest → ⊥
too_long c others [] rest long each is =
    let zero : c ≡ 0 = cc in
    omega (arith, zero, long)
too_long c others (l ∷ ls) rest long each is =
    let same : c ∷ others ≡ length l ∷ (l ++ (wire ls ++ rest)) = is ∙ split_off l ls rest in
    let size : c ≡ length l = cc in
    omega (arith, size, long, each.0.not_long)

-- no label has this length
pub passing_fault : (octets : List ℕ) (at c : ℕ) → at < length octets → c ≡ get_or octets at 0 → 63 < c → Passing octets at → StartsNoName octets
passing_fault octets at c within is long p =
    let split : drop at octets ≡ c ∷ drop (at + 1) octets = drop_more octets at 0 within ∙ ap (λ (n : ℕ). n ∷ drop (at + 1) octets) (sym is) in
    starts octets (λ h. let left = p.onward h in too_long c (drop (at + 1) octets) left.labels left.rest long left.each (sym split ∙ left.is))

-- the octets, or the size of a name, run out
pub passing_out : (octets : List ℕ) (at : ℕ) → (at < length octets → at < 255 → ⊥) → Passing octets at → StartsNoName octets
passing_out octets at out p =
    starts octets (λ h.
    let left = p.onward h in
    let some : 1 ≤ encoded_size left.labels = omega arith in
    let size = ap length left.is in
    out (omega (arith, size, length-drop at octets, length-append (wire left.labels) left.rest, length_wire left.labels, some))
    (omega (arith, left.few, some)))

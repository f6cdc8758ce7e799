-- How many octets a name and a field of a shape take is the same whatever follows them.
use Rattle.std.proofs.Common.{◌≡◌, ℕ, zero, suc, ◌+◌, ◌-◌, ◌%◌, ◌≤◌, ◌<◌, ◌==◌, ◌&&◌, max, Bool, true, false, List, [], ◌∷◌, ◌++◌, length, take, drop, slice_index, slice_range, refl, sym, ap, ◌∙◌, arith, length-drop, rules, tests, inl, inr, append-nil}
use Rattle.std.specs.Prelude.{nat_le, nat_lt, if◌then◌else◌}
use Rattle.std.specs.Int.{w16, from_be_bytes}
use Rattle.std.proofs.lemmas.Bool.{cases_Bool}
use Rattle.std.proofs.lemmas.List.{length-take-le}
use Rattle.std.proofs.Math.Seq.{take-length}
use Rattle.dnw_data.specs.declared.kind.Shape.{Shape}
use Rattle.dnw_data.specs.declared.kind.Shape.TheVariants.{Location, Gateway, Relay, HostIdentity, AddressSuffix}
use Rattle.dnw_data.specs.Shapes.{IsShaped, gateway_size, relay_size, shape_size, suffix_size}
use Rattle.dnw_data.specs.declared.kind.Kind.{Kind}
use Rattle.dnw_data.specs.declared.kind.Kind.TheVariants.{Counted, LongCounted, Octets, Shaped}
use Rattle.dnw_data.specs.declared.kind.Kind.TheVariants as kinds
use Rattle.dnw_data.specs.declared.kind.ListKind.TheVariants as lists
use Rattle.dnw_data.specs.Values.{long_counted_size, own_size}
use Rattle.dnw_data.specs.WholeNames.{labels_size, most_labels, name_size}

-- ---- names

labels_some : (n : ℕ) (left : List ℕ) → 1 ≤ labels_size n left
labels_some zero left = omega arith
labels_some (suc n) left = elim (cases_Bool (nat_le 1 (slice_index left 0) && nat_le (slice_index left 0) 63)) [
  | inl is ↦ rw is (omega arith)
  | inr other ↦ rw other (omega arith)
]

pub name_size_some : (left : List ℕ) → 1 ≤ name_size left
unfolding name_size
name_size_some left = labels_some most_labels left

cut : (x m n : ℕ) (xs rest : List ℕ) → n ≡ x + m → n ≤ length xs → drop x (take n xs ++ rest) ≡ take m (drop x xs) ++ rest
cut zero m n xs rest e h = let same : n ≡ m = omega (arith, e) in ap (λ k. take k xs ++ rest) same
cut (suc x) m n [] rest e h = absurd (omega (arith, e, h))
cut (suc x) m zero (y ∷ ys) rest e h = absurd (omega (arith, e))
cut (suc x) m (suc n) (y ∷ ys) rest e h = cut x m n ys rest (omega (arith, e)) (omega (arith, h))

labels_same : (n : ℕ) (left rest : List ℕ) → labels_size n left ≤ length left → labels_size n (take (labels_size n left) left ++ rest) ≡ labels_size n left
labels_same zero left rest h = refl
labels_same (suc n) [] rest h = absurd (omega (arith, h))
labels_same (suc n) (x ∷ xs) rest h = elim (cases_Bool (nat_le 1 x && nat_le x 63)) [
  | inr other ↦ rw (other, other) refl
  | inl is ↦
      let one : 1 + x ≡ suc x = omega arith in
      let m = labels_size n (drop x xs) in
      let size : labels_size (suc n) (x ∷ xs) ≡ suc (x + m) = rw (is, one) (let e : suc x + m ≡ suc (x + m) = omega arith in e) in
      let within : x + m ≤ length xs = omega (arith, h, size) in
      let own : take (labels_size (suc n) (x ∷ xs)) (x ∷ xs) ≡ x ∷ take (x + m) xs = ap (λ k. take k (x ∷ xs)) size in
      let later : labels_size n (drop x (take (x + m) xs ++ rest)) ≡ m =
      ap (labels_size n) (cut x m (x + m) xs rest refl within) ∙ labels_same n (drop x xs) rest (omega (arith, within, length-drop x xs)) in
      let all : labels_size (suc n) (x ∷ (take (x + m) xs ++ rest)) ≡ suc x + m = rw (is, one) (ap (λ k. suc x + k) later) in
      ap (λ ys. labels_size (suc n) (ys ++ rest)) own ∙ all ∙ (let e : suc x + m ≡ suc (x + m) = omega arith in e) ∙ sym size
]

pub name_same : (left rest : List ℕ) → name_size left ≤ length left → name_size (take (name_size left) left ++ rest) ≡ name_size left
unfolding name_size
name_same left rest h = labels_same most_labels left rest h

-- ---- gateways and relays

gateway_same : (type : ℕ) (left rest : List ℕ) → gateway_size type left ≤ length left
    → gateway_size type (take (gateway_size type left) left ++ rest) ≡ gateway_size type left
gateway_same type left rest h = elim (cases_Bool (type == 1)) [
  | inl one ↦ rw one refl
  | inr not_one ↦ elim (cases_Bool (type == 2)) [
    | inl two ↦ rw (not_one, two) refl
    | inr not_two ↦ elim (cases_Bool (type == 3)) [
      | inl three ↦ let within = rw (not_one, not_two, three) at h in rw (not_one, not_two, three) (name_same left rest within)
      | inr not_three ↦ rw (not_one, not_two, not_three) refl
    ]
  ]
]

all_of : (left rest : List ℕ) → rest ≡ [] → take (length left) left ++ rest ≡ left
all_of left rest none = ap (λ r. take (length left) left ++ r) none ∙ append-nil (take (length left) left) ∙ take-length left

relay_same : (type : ℕ) (left rest : List ℕ) → relay_size type left ≤ length left → (relay_size type left ≡ length left → rest ≡ [])
    → relay_size type (take (relay_size type left) left ++ rest) ≡ relay_size type left
relay_same type left rest h end = elim (cases_Bool (nat_lt 3 type)) [
  | inl other ↦ let none = (rw other at end) refl in rw other (ap length (all_of left rest none))
  | inr known ↦ let within = rw known at h in rw known (gateway_same type left rest within)
]

-- ---- shapes

-- shapes whose octets may be all that are left
abbrev pub goes_to_end : Shape → Bool
goes_to_end Location = true
goes_to_end Relay = true
goes_to_end shape = false

identity_is : (a b c d : ℕ) (ys : List ℕ) → shape_size HostIdentity (a ∷ b ∷ c ∷ d ∷ ys) ≡ 4 + a + from_be_bytes w16 (c ∷ d ∷ [])
identity_is a b c d ys =
    let long : nat_lt (length (a ∷ b ∷ c ∷ d ∷ ys)) 4 ≡ false = search (rules, tests) in
    rw long refl

pub shape_same : (shape : Shape) (left own rest : List ℕ) → own ≡ take (shape_size shape left) left → shape_size shape left ≤ length left
    → (goes_to_end shape ≡ true → shape_size shape left ≡ length left → rest ≡ []) → shape_size shape (own ++ rest) ≡ shape_size shape left
shape_same Location [] own rest is h end = absurd (omega (arith, h))
shape_same Location (x ∷ xs) own rest is h end = elim (cases_Bool (x == 0)) [
  | inl none ↦
      let size : shape_size Location (x ∷ xs) ≡ 16 = rw none refl in
      let own_is : own ≡ x ∷ take 15 xs = is ∙ ap (λ k. take k (x ∷ xs)) size in
      let same : shape_size Location (x ∷ (take 15 xs ++ rest)) ≡ 16 = rw none refl in
      ap (λ o. shape_size Location (o ++ rest)) own_is ∙ same ∙ sym size
  | inr some ↦
      let size : shape_size Location (x ∷ xs) ≡ length (x ∷ xs) = rw some refl in
      let all : own ++ rest ≡ x ∷ xs = ap (λ o. o ++ rest) (is ∙ ap (λ k. take k (x ∷ xs)) size) ∙ all_of (x ∷ xs) rest (end refl size) in
      ap (shape_size Location) all
]
shape_same Gateway [] own rest is h end = absurd (omega (arith, h))
shape_same Gateway (a ∷ []) own rest is h end = absurd (omega (arith, h))
shape_same Gateway (a ∷ b ∷ ls) own rest is h end =
    let g = gateway_size a ls in
    let size : 2 + g ≡ suc (suc g) = omega arith in
    let own_is : own ≡ a ∷ b ∷ take g ls = is ∙ ap (λ k. take k (a ∷ b ∷ ls)) size in
    ap (λ o. shape_size Gateway (o ++ rest)) own_is ∙ ap (λ n. 2 + n) (gateway_same a ls rest (omega (arith, h)))
shape_same Relay [] own rest is h end = absurd (omega (arith, h))
shape_same Relay (a ∷ ls) own rest is h end =
    let r = relay_size (a % 128) ls in
    let size : 1 + r ≡ suc r = omega arith in
    let own_is : own ≡ a ∷ take r ls = is ∙ ap (λ k. take k (a ∷ ls)) size in
    let last : r ≡ length ls → rest ≡ [] = λ all. end refl (ap (λ n. 1 + n) all ∙ (let e : 1 + length ls ≡ length (a ∷ ls) = omega arith in e)) in
    ap (λ o. shape_size Relay (o ++ rest)) own_is ∙ ap (λ n. 1 + n) (relay_same (a % 128) ls rest (omega (arith, h)) last)
shape_same HostIdentity [] own rest is h end = absurd (omega (arith, h))
shape_same HostIdentity (a ∷ []) own rest is h end = absurd (omega (arith, h))
shape_same HostIdentity (a ∷ b ∷ []) own rest is h end = absurd (omega (arith, h))
shape_same HostIdentity (a ∷ b ∷ c ∷ []) own rest is h end = absurd (omega (arith, h))
shape_same HostIdentity (a ∷ b ∷ c ∷ d ∷ ls) own rest is h end =
    let n = a + from_be_bytes w16 (c ∷ d ∷ []) in
    let size : 4 + a + from_be_bytes w16 (c ∷ d ∷ []) ≡ suc (suc (suc (suc n))) = omega arith in
    let own_is : own ≡ a ∷ b ∷ c ∷ d ∷ take n ls = is ∙ ap (λ k. take k (a ∷ b ∷ c ∷ d ∷ ls)) (identity_is a b c d ls ∙ size) in
    ap (λ o. shape_size HostIdentity (o ++ rest)) own_is ∙ identity_is a b c d (take n ls ++ rest) ∙ sym (identity_is a b c d ls)
shape_same AddressSuffix [] own rest is h end = absurd (omega (arith, h))
shape_same AddressSuffix (a ∷ ls) own rest is h end =
    let size : 1 + suffix_size a ≡ suc (suffix_size a) = omega arith in
    let own_is : own ≡ a ∷ take (suffix_size a) ls = is ∙ ap (λ k. take k (a ∷ ls)) size in
    ap (λ o. shape_size AddressSuffix (o ++ rest)) own_is

-- octets of a shape have their size whatever follows them, or nothing does
pub shape_given : (shape : Shape) (own rest : List ℕ) → IsShaped shape own → (goes_to_end shape ≡ true → rest ≡ [])
    → length own ≡ shape_size shape (own ++ rest)
shape_given shape own rest is end =
    let own_is : own ≡ take (shape_size shape own) own = sym (take-length own) ∙ ap (λ k. take k own) is.size in
    is.size ∙ sym (shape_same shape own own rest own_is (omega (arith, is.size)) (λ ends all. end ends))

-- ---- octets after their number

pub long_is : (a b : ℕ) (ys : List ℕ) → long_counted_size (a ∷ b ∷ ys) ≡ 2 + from_be_bytes w16 (a ∷ b ∷ [])
long_is a b ys =
    let long : nat_lt (length (a ∷ b ∷ ys)) 2 ≡ false = search (rules, tests) in
    rw long refl

pub long_same : (left own rest : List ℕ) → own ≡ take (long_counted_size left) left → long_counted_size left ≤ length left
    → long_counted_size (own ++ rest) ≡ long_counted_size left
long_same [] own rest is h = absurd (omega (arith, h))
long_same (a ∷ []) own rest is h = absurd (omega (arith, h))
long_same (a ∷ b ∷ ls) own rest is h =
    let n = from_be_bytes w16 (a ∷ b ∷ []) in
    let size : 2 + n ≡ suc (suc n) = omega arith in
    let own_is : own ≡ a ∷ b ∷ take n ls = is ∙ ap (λ k. take k (a ∷ b ∷ ls)) (long_is a b ls ∙ size) in
    ap (λ o. long_counted_size (o ++ rest)) own_is ∙ long_is a b (take n ls ++ rest) ∙ sym (long_is a b ls)

-- ---- fields

-- the octets of a field alone, and what follows them, say as well how many it takes
all_left : (left own rest : List ℕ) → own ≡ take (length left) left → rest ≡ [] → length (own ++ rest) ≡ length left
all_left left own rest is none =
    ap (λ r. length (own ++ r)) none ∙ ap length (append-nil own) ∙ ap length (is ∙ take-length left)

pub size_same : (kind : Kind) (left own rest : List ℕ) → own ≡ take (own_size kind left) left → own_size kind left ≤ length left
    → (own_size kind left ≡ length left → rest ≡ []) → own_size kind (own ++ rest) ≡ own_size kind left
size_same (kinds.Name form) left own rest is le end = all_left left own rest is (end refl)
size_same (Counted shown) [] own rest is le end = absurd (omega (arith, le))
size_same (Counted shown) (x ∷ xs) own rest is le end =
    let more : 1 + x ≡ suc x = omega arith in
    let own_is : own ≡ x ∷ take x xs = is ∙ ap (λ n. take n (x ∷ xs)) more in
    ap (λ (o : List ℕ). 1 + slice_index (o ++ rest) 0) own_is
size_same (LongCounted shown) left own rest is le end = long_same left own rest is le
size_same (Shaped shape) left own rest is le end = shape_same shape left own rest is le (λ _ all. end all)
size_same (Octets shown) left own rest is le end = all_left left own rest is (end refl)
size_same (kinds.List lists.Texts) left own rest is le end =
    let all : own_size (kinds.List lists.Texts) left ≡ length left = omega (arith, le) in
    let none = end all in
    ap (max 1) (all_left left own rest (is ∙ ap (λ n. take n left) all) none)
size_same (kinds.List list) left own rest is le end = all_left left own rest is (end refl)
size_same kind left own rest is le end = refl

-- the octets that a field takes are as many as they say alone
pub own_sized : (kind : Kind) (left : List ℕ) → own_size kind left ≤ length left
    → length (take (own_size kind left) left) ≡ own_size kind (take (own_size kind left) left)
own_sized kind left le =
    let own = take (own_size kind left) left in
    length-take-le (own_size kind left) left le ∙ sym (size_same kind left own [] refl le (λ _. refl)) ∙ ap (own_size kind) (append-nil own)

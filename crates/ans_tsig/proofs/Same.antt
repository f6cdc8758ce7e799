-- Octets are the same exactly if no bit of them differs.
use Rattle.std.proofs.Common.{◌≡◌, ◌≤◌, ◌+◌, ℕ, true, List, length, get_or, sym, ap, ◌∙◌, subst, arith, below_more, eqb}
use Rattle.std.proofs.lemmas.Bool.{eqb-true, eq-eqb}
use lib.Bits.{bit_or, bit_xor, xor_assoc, xor_self, xor_zero_l, xor_zero_r}
use Rattle.std.proofs.lemmas.Nat.{le_or_l, le_or_r}
use Rattle.std.proofs.lemmas.List.{ext_get_or}
use Rattle.ans_tsig.specs.Inside.Comparing.{Compares}

same_octets : (a b : ℕ) → bit_xor a b ≡ 0 → a ≡ b
same_octets a b h =
    sym (xor_zero_r a) ∙ ap (bit_xor a) (sym (xor_self b)) ∙ sym (xor_assoc a b b) ∙ ap (λ z. bit_xor z b) h ∙ xor_zero_l b

former_is_zero : (a b : ℕ) → bit_or a b ≡ 0 → a ≡ 0
former_is_zero a b h = let l = le_or_l a b in omega arith

latter_is_zero : (a b : ℕ) → bit_or a b ≡ 0 → b ≡ 0
latter_is_zero a b h = let l = le_or_r a b in omega arith

none_differs : (left right : List ℕ) (i d : ℕ) → left ≡ right → d ≡ 0 → bit_or d (bit_xor (get_or left i 0) (get_or right i 0)) ≡ 0
none_differs left right i d equal zero =
    let e : bit_xor (get_or left i 0) (get_or right i 0) ≡ 0 =
    subst (λ (xs : List ℕ). bit_xor (get_or left i 0) (get_or xs i 0) ≡ 0) equal (xor_self (get_or left i 0)) in
    ap (λ n. bit_or n (bit_xor (get_or left i 0) (get_or right i 0))) zero ∙ ap (bit_or 0) e

pub compared_more : (left right : List ℕ) (i d : ℕ) → Compares left right i d
    → Compares left right (i + 1) (bit_or d (bit_xor (get_or left i 0) (get_or right i 0)))
compared_more left right i d before = record {
  same = λ z. below_more (λ k. get_or left k 0 ≡ get_or right k 0) i (before.same (former_is_zero d _ z)) (same_octets _ _ (latter_is_zero d _ z));
  none = λ equal. none_differs left right i d equal (before.none equal);
}

all_same : (left right : List ℕ) (i d : ℕ) → Compares left right i d → length left ≡ length right → length left ≤ i → eqb d 0 ≡ true → left ≡ right
all_same left right i d done long all t = ext_get_or 0 left right long (λ k h. done.same (eqb-true d 0 t) k (omega arith))

pub compared_all : (left right : List ℕ) (i d : ℕ) → Compares left right i d → length left ≡ length right → length left ≤ i
    → (eqb d 0 ≡ true → left ≡ right) × (left ≡ right → eqb d 0 ≡ true)
compared_all left right i d done long all = (all_same left right i d done long all, λ equal. eq-eqb d 0 (done.none equal))

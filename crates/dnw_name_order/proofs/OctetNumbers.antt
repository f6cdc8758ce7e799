-- Octets compared as numbers.
use Rattle.std.proofs.Common.{◌≡◌, ℕ, zero, suc, ◌+◌, ◌*◌, ◌<◌, ◌≤◌, List, inl, inr, length, drop, get_or, refl, sym, ap, ◌∙◌, add-zero, arith}
use Rattle.std.specs.Cmp.{nat_cmp_is}
use Rattle.std.specs.Cmp.Lexicographic.{slice_cmp}
use Rattle.std.specs.Ordering.{nat_cmp, ordering_then}
use Rattle.std.specs.declared.cmp.Ordering.{Ordering}
use Rattle.std.specs.declared.cmp.Ordering.TheVariants.{Less, Equal, Greater}
use Rattle.std.proofs.lemmas.Bool.{cases_order}
use Rattle.std.proofs.lemmas.Cmp.{ranked}
use Rattle.std.proofs.lemmas.List.{drop_more}
use Rattle.dnw_name_order.specs.Inside.Numbers.{number_from}
use Rattle.dnw_name_order.proofs.Comparing.{then_assoc}

-- the last digit decides if the others are the same
digit : (n m a b : ℕ) → a < 256 → b < 256 → ordering_then (nat_cmp n m) (nat_cmp a b) ≡ nat_cmp (n * 256 + a) (m * 256 + b)
digit n m a b few few_too = elim (cases_order n m) [
  | inl same ↦ elim (cases_order a b) [
    | inl alike ↦ rw (← nat_cmp_is n m Equal same, ← nat_cmp_is a b Equal alike) (nat_cmp_is (n * 256 + a) (m * 256 + b) Equal (omega (arith, same, alike)))
    | inr (inl less) ↦ rw (← nat_cmp_is n m Equal same, ← nat_cmp_is a b Less less) (nat_cmp_is (n * 256 + a) (m * 256 + b) Less (omega (arith, same, less)))
    | inr (inr more) ↦ rw (← nat_cmp_is n m Equal same, ← nat_cmp_is a b Greater more) (nat_cmp_is (n * 256 + a) (m * 256 + b) Greater (omega (arith, same, more)))
  ]
  | inr (inl less) ↦ rw (← nat_cmp_is n m Less less) (nat_cmp_is (n * 256 + a) (m * 256 + b) Less (omega (arith, less, few)))
  | inr (inr more) ↦ rw (← nat_cmp_is n m Greater more) (nat_cmp_is (n * 256 + a) (m * 256 + b) Greater (omega (arith, more, few_too)))
]

-- the next n octets of two lists are compared as one number
pub next_compare : (xs ys : List ℕ) → ((k : ℕ) → get_or xs k 0 < 256) → ((k : ℕ) → get_or ys k 0 < 256) → (i n : ℕ) → i + n ≤ length xs → i + n ≤ length ys
    → slice_cmp nat_cmp (drop i xs) (drop i ys)
    ≡ ordering_then (nat_cmp (number_from xs i n) (number_from ys i n)) (slice_cmp nat_cmp (drop (i + n) xs) (drop (i + n) ys))
next_compare xs ys bytes bytes_too i zero le le_too = rw add-zero refl
next_compare xs ys bytes bytes_too i (suc n) le le_too =
    let a = get_or xs (i + n) 0 in
    let b = get_or ys (i + n) 0 in
    let after : i + n + 1 ≡ i + suc n = omega arith in
    let others = slice_cmp nat_cmp (drop (i + suc n) xs) (drop (i + suc n) ys) in
    let first : slice_cmp nat_cmp (drop (i + n) xs) (drop (i + n) ys) ≡ ordering_then (nat_cmp a b) others =
    rw (drop_more xs (i + n) 0 (omega (arith, le)), drop_more ys (i + n) 0 (omega (arith, le_too)), after) refl in
    next_compare xs ys bytes bytes_too i n (omega (arith, le)) (omega (arith, le_too))
    ∙ ap (ordering_then (nat_cmp (number_from xs i n) (number_from ys i n))) first
    ∙ sym (then_assoc (nat_cmp (number_from xs i n) (number_from ys i n)) (nat_cmp a b) others)
    ∙ ap (λ (o : Ordering). ordering_then o others) (digit (number_from xs i n) (number_from ys i n) a b (bytes (i + n)) (bytes_too (i + n)))

-- numbers that differ decide
decided : (a b : ℕ) (o : Ordering) → (a ≡ b → ⊥) → ordering_then (nat_cmp a b) o ≡ nat_cmp a b
decided a b o other = by_case (nat_cmp a b) refl
  where
    by_case : (first : Ordering) → first ≡ nat_cmp a b → ordering_then first o ≡ first
    by_case Less e = refl
    by_case Greater e = refl
    by_case Equal e = absurd (other (ranked a b Equal e))

module _ (xs ys : List ℕ) (bytes : (k : ℕ) → get_or xs k 0 < 256) (bytes_too : (k : ℕ) → get_or ys k 0 < 256) (i : ℕ) (le : i + 8 ≤ length xs) (le_too : i + 8 ≤ length ys)
    (a b : ℕ) (first : a ≡ number_from xs i 8) (second : b ≡ number_from ys i 8) where
  pub eights_differ : (a ≡ b → ⊥) → nat_cmp a b ≡ slice_cmp nat_cmp (drop i xs) (drop i ys)
  eights_differ other =
      ap (λ (n : ℕ). nat_cmp n b) first ∙ ap (nat_cmp (number_from xs i 8)) second
      ∙ sym (next_compare xs ys bytes bytes_too i 8 le le_too ∙ decided (number_from xs i 8) (number_from ys i 8) _ (λ e. other (first ∙ e ∙ sym second)))

  -- and those that are the same leave it to what follows
  pub eights_same : a ≡ b → slice_cmp nat_cmp (drop i xs) (drop i ys) ≡ slice_cmp nat_cmp (drop (i + 8) xs) (drop (i + 8) ys)
  eights_same same =
      let none : Equal ≡ nat_cmp (number_from xs i 8) (number_from ys i 8) =
      nat_cmp_is (number_from xs i 8) (number_from ys i 8) Equal (sym first ∙ same ∙ second) in
      next_compare xs ys bytes bytes_too i 8 le le_too
      ∙ ap (λ (o : Ordering). ordering_then o (slice_cmp nat_cmp (drop (i + 8) xs) (drop (i + 8) ys))) (sym none)

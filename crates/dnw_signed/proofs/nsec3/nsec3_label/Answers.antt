use Rattle.std.proofs.Common.{◌≡◌, ℕ, zero, suc, List, [], ◌∷◌, length, get_or, refl, sym, ap, ◌∙◌}
use Rattle.dnw_signed.specs.HashedNames.{nsec3_label}
use Rattle.dnw_signed.proofs.nsec3.nsec3_label.Goals as goal

-- the elements from one on, of which there are so many
abbrev elements : List ℕ → ℕ → ℕ → List ℕ
elements xs i zero = []
elements xs i (suc n) = get_or xs i 0 ∷ elements xs (suc i) n

elements_later : (x : ℕ) (xs : List ℕ) (i n : ℕ) → elements (x ∷ xs) (suc i) n ≡ elements xs i n
elements_later x xs i zero = refl
elements_later x xs i (suc n) = ap (λ ys. get_or xs i 0 ∷ ys) (elements_later x xs (suc i) n)

elements_all : (xs : List ℕ) → elements xs 0 (length xs) ≡ xs
elements_all [] = refl
elements_all (x ∷ xs) = ap (λ ys. x ∷ ys) (elements_later x xs 0 (length xs) ∙ elements_all xs)

pub returns : goal.returns
returns c =
    let hash = c.args.hash.now in
    let whole : elements hash 0 20 ≡ hash = ap (elements hash 0) (sym c.told-hash) ∙ elements_all hash in
    rw (
      c.copy_from_slice-4.ensures.after,
      c.copy_from_slice-3.ensures.after,
      c.copy_from_slice-2.ensures.after,
      c.copy_from_slice.ensures.after,
      c.digits.ensures,
      c.digits-2.ensures,
      c.digits-3.ensures,
      c.digits-4.ensures,
    ) (ap nsec3_label whole)

-- Whether a text is empty.
use Rattle.std.proofs.Common.{length, ◌==◌, ◌≡◌, ◌≢◌, ℕ, Bool, true, false, List, [], sym, ap, ◌∙◌}
use Rattle.std.proofs.lemmas.Bool.{eqb-true}
use Rattle.std.proofs.lemmas.List.{nil_from_length}

pub not_empty : (xs : List ℕ) (b : Bool) → b ≡ (length xs == 0) → b ≡ false → xs ≢ []
not_empty xs b test is e = let both : false ≡ true = sym is ∙ test ∙ ap (λ (ys : List ℕ). length ys == 0) e in cc

pub is_empty : (xs : List ℕ) (b : Bool) → b ≡ (length xs == 0) → b ≡ true → xs ≡ []
is_empty xs b test is = nil_from_length xs (eqb-true (length xs) 0 (sym test ∙ is))

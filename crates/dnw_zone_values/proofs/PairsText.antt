-- Pairs of digits, one after another.
use Rattle.std.proofs.Common.{◌≡◌, ℕ, ◌/◌, ◌%◌, List, [], ◌∷◌, ◌++◌, sym, ap, ◌∙◌, append_assoc}
use Rattle.dnw_zone_values.specs.Pairs.{hyphen, lower_digit, pairs_text}

-- one pair more, with its hyphen
pub one_pair : (done left rest whole : List ℕ) (o next x y : ℕ) → left ≡ next ∷ rest → x ≡ lower_digit (o / 16) → y ≡ lower_digit (o % 16)
    → done ++ pairs_text (o ∷ left) ≡ whole → (done ++ x ∷ y ∷ hyphen ∷ []) ++ pairs_text (next ∷ rest) ≡ whole
one_pair done left rest whole o next x y e high low so_far =
    append_assoc done (x ∷ y ∷ hyphen ∷ []) (pairs_text (next ∷ rest)) ∙ rw (high, low) (ap (λ (xs : List ℕ). done ++ pairs_text (o ∷ xs)) (sym e) ∙ so_far)

-- the last pair
pub last_pair : (done left whole : List ℕ) (o x y : ℕ) → left ≡ [] → x ≡ lower_digit (o / 16) → y ≡ lower_digit (o % 16)
    → done ++ pairs_text (o ∷ left) ≡ whole → done ++ x ∷ y ∷ [] ≡ whole
last_pair done left whole o x y e high low so_far = rw (high, low) (ap (λ (xs : List ℕ). done ++ pairs_text (o ∷ xs)) (sym e) ∙ so_far)

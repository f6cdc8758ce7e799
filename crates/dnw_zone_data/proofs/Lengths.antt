-- A length octet before the octets that it counts.
use Rattle.std.proofs.Common.{◌≡◌, ℕ, ◌+◌, ◌-◌, List, [], ◌∷◌, ◌++◌, length, take, drop, refl, ap, ◌∙◌, arith, append_assoc, length-append}
use Rattle.std.proofs.lemmas.List.{drop_at, take_at}

pub counted_octets : (old own before new : List ℕ) → before ≡ (old ++ 0 ∷ []) ++ own
    → new ≡ take (length old) before ++ (length before - length old - 1) ∷ drop (length old + 1) before → new ≡ old ++ length own ∷ own
counted_octets old own before new is put =
    let size : length before - length old - 1 ≡ length own = omega (arith, ap length is, length-append (old ++ 0 ∷ []) own, length-append old (0 ∷ [])) in
    let front : take (length old) before ≡ old = ap (take (length old)) (is ∙ append_assoc old (0 ∷ []) own) ∙ take_at old (0 ∷ own) (length old) refl in
    let back : drop (length old + 1) before ≡ own = ap (drop (length old + 1)) is ∙ drop_at (old ++ 0 ∷ []) own (length old + 1) (omega (arith, length-append old (0 ∷ []))) in
    put ∙ rw (size, front, back) refl
